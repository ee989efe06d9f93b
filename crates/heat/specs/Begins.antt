-- What `begin` and a lane hand on, for their contracts: the answer of a result, and the workspace. What a call answers is `heat_def` of Heats.
use Rattle.std.specs.Prelude.{ℕ, List, cond, ltb, Result}
use Rattle.book.specs.Refusals.{reply_of, place_of}
use Rattle.book.specs.declared.replies.Refusal.{Refusal}
use Rattle.sets.specs.Workspace.{AfterBuild, build_def}
use Rattle.output.specs.declared.Size.{Size}
use Rattle.output.specs.Results.{rewritten}
use Rattle.heat.specs.declared.Lane.{Lane}
use Rattle.heat.specs.declared.Heated.{Heated}
use Rattle.heat.specs.Lanes.{answered}
use Rattle.heat.specs.Heats.{most_lanes, heated}

-- the answer of the whole call
abbrev pub heated_of : {A : Type 0} → Result A Refusal → Heated
heated_of r = heated (reply_of r) (place_of r)

-- what a lane gets back of its tape's REWRITE
abbrev pub answered_by : Lane → Result Size Refusal → Lane
answered_by l r = answered l (rewritten r).reply (rewritten r).place (rewritten r).length (rewritten r).taken

-- what stands before the lanes
pub record AfterBegin : Type 0 where
  pub answer : Heated
  pub rows : List ℕ
  pub sets : List ℕ

abbrev pub begins : Heated → List ℕ → List ℕ → AfterBegin
begins answer rows sets = record { answer = answer; rows = rows; sets = sets }

abbrev pub begins_built : AfterBuild → AfterBegin
begins_built b = begins (heated b.answer.reply b.answer.place) b.rows b.sets

unfoldable pub begin_def : List ℕ → ℕ → List ℕ → List ℕ → AfterBegin
begin_def book n rows sets = cond (ltb most_lanes n) (begins (heated 16 0) rows sets) (begins_built (build_def book rows sets))
