-- How far the second pass has come.
use Prim.Native.Nat.{ℕ, ◌+◌, ◌*◌, ◌≤◌, ◌<◌}
use Rattle.std.specs.Prelude.{Option, Result, Ok, Err}
use Rattle.book.specs.declared.replies.Refusal.{Refusal}
use Rattle.std.specs.Result.{is_ok}
use mathlib.Core.Bool.{true}
use mathlib.Core.Path.{◌≡◌, refl, ap, sym, ◌∙◌, subst}
use mathlib.Core.List.{List, [], ◌∷◌, ◌++◌, append_assoc, append-nil}
use native.Mathlib.Omega.{arith}
use lib.ListN.{length, drop, set, length-append, take-append-drop}
use Rattle.att.specs.Reading.{line_at}
use Rattle.att.specs.Text.{Said, arc, final, read_text, lines_in, idx, names, arc_count, flags, state_records, arc_records, written}
use Rattle.att.specs.Survey.{fresh, put, Filled, final_flags, Listed, LineFits, AfterLine, line_leaves, line_def, after_states}
use Rattle.att.specs.Results.{line_saying, line_advanced}
use Rattle.att.specs.declared.reading.Line as read
use Rattle.att.proofs.Planning.{Ready}
use Rattle.att.specs.Line.{End, Final, Arc, Faulty}
use Rattle.att.proofs.Surveying.{Walk, walk_start, walk_end, walk_refused, walk_final, walk_arc, arcs_snoc}
use Rattle.att.proofs.Filling.{filled_length, fill_put, records_length, fresh_length, fresh_more}
use Rattle.att.proofs.Appearing.{Longer, walk_longer, In, final_in, source_in, target_in, once_names}
use Rattle.att.proofs.Flags.{flags_arc, flags_final, flags_none, flags_long, arcs_more, arcs_long, arcs_append, set_record}

-- what the lines that are done have written, over the states S
abbrev pub front : ℕ → ℕ → List ℕ → List Said → List ℕ
front part first S done = state_records part (flags done S) ++ arc_records first S done

front_long : (part first : ℕ) (S : List ℕ) (done : List Said) → length (front part first S done) ≡ 3 * length (fresh (length S)) + 5 * arc_count done
front_long part first S done =
    let a = length-append (state_records part (flags done S)) (arc_records first S done) in
    let b = records_length part (flags done S) in
    let d = flags_long done S in
    let e = arcs_long first S done in
    omega arith

pub record Mid (out o s : List ℕ) (part first at used : ℕ) : Type 0 where
  pub done : List Said
  pub walk : Walk s at done
  pub filled : Filled out (front part first (names (lines_in (read_text s))) done) o
  pub upto : used ≡ 3 * length (fresh (length (names (lines_in (read_text s))))) + 5 * arc_count done

module _ (o s L : List ℕ) (part first : ℕ) (r : Ready o s L part first) where
  abbrev whole : List Said
  whole = lines_in (read_text s)

  abbrev S : List ℕ
  S = names whole

  pub mid_start : (used : ℕ) → used ≡ 3 * length (fresh (length L)) → Mid o o s part first 0 used
  unfolding arc_records arc_count
  mid_start used e =
      let w : length (flags [] S) ≡ length (fresh (length L)) = flags_long [] S ∙ ap (λ (k : ℕ). length (fresh k)) (sym (ap length r.clear.listed)) in
      let v : length (flags whole S) ≡ length (fresh (length L)) = flags_long whole S ∙ ap (λ (k : ℕ). length (fresh k)) (sym (ap length r.clear.listed)) in
      let k = r.clear.enough in
      let f : front part first S [] ≡ state_records part (fresh (length L)) = append-nil _
      ∙ ap (state_records part) (flags_none S ∙ ap fresh (sym (ap length r.clear.listed))) in
      let l = records_length part (fresh (length L)) in
      record {
        done = [];
        walk = walk_start s;
        filled = rw f (record {
          room = omega arith;
          is = sym (take-append-drop (length (state_records part (fresh (length L)))) o)
              ∙ rw l (ap (λ (t : List ℕ). t ++ drop (3 * length (fresh (length L))) o) r.front);
        });
        upto = rw (← ap length r.clear.listed) (omega arith);
      }

  module _ (out : List ℕ) (at used : ℕ) (m : Mid out o s part first at used) where
    numbered : (x k : ℕ) → k ≡ idx L x → k ≡ idx S x
    numbered x k q = q ∙ ap (λ (L : List ℕ). idx L x) r.clear.listed

    pub mid_long : length out ≡ length o
    mid_long = filled_length _ _ _ m.filled

    pub mid_end : line_at s at ≡ End → Filled out (written part first whole) o
    unfolding written
    mid_end e =
        let d : whole ≡ m.done = ap lines_in (walk_end s at m.done m.walk e) in
        subst (λ (ls : List Said). Filled out (front part first S ls) o) (sym d) m.filled

    pub mid_faulty : (b : ℕ) → line_at s at ≡ Faulty b → ⊥
    mid_faulty b e =
        let u = walk_refused s at m.done b m.walk e in
        let v = r.clear.good in
        let z : ◌≡◌ {A = ℕ} 0 1 = cc in omega arith

    module _ (x next k : ℕ) (e : line_at s at ≡ Final x next) (q : k ≡ idx L x) where
      final_named : In S x
      final_named = final_in m.done whole x (walk_longer s next (m.done ++ (final x ∷ [])) whole (walk_final s at m.done x next m.walk e)
          r.clear.good)

      flag_there : k < length (flags m.done S)
      flag_there =
          let h = final_named in
          let i = numbered x k q in
          let l = flags_long m.done S in
          let z : length (fresh (length S)) ≡ length S = fresh_length (length S) (λ y. let w : ⊥ = omega arith in w) in
          omega arith

      pub final_small : k < length L
      final_small = let h = final_named in let i = numbered x k q in let w = ap length r.clear.listed in omega arith

      pub mid_final : Mid (set out (3 * k + 2) (final_flags k)) o s part first next used
      mid_final =
          let i = numbered x k q in
          let f : flags (m.done ++ (final x ∷ [])) S ≡ set (flags m.done S) k (final_flags k)
          = flags_final m.done x S (once_names whole) final_named ∙ rw i in
          let g : arc_records first S (m.done ++ (final x ∷ [])) ≡ arc_records first S m.done = arcs_more first S m.done (final x) ∙ append-nil _ in
          let t = set_record part (flags m.done S) (arc_records first S m.done ++ drop (length (front part first S m.done)) o) k
          (final_flags k) flag_there in
          let y : front part first S (m.done ++ (final x ∷ [])) ≡ state_records part (set (flags m.done S) k (final_flags k)) ++ arc_records first S
          m.done = rw (f, g) in
          let c = arcs_snoc m.done (final x) in
          let u = m.upto in
          let v : length (front part first S (m.done ++ (final x ∷ []))) ≡ length (front part first S m.done) = front_long part first S _
          ∙ rw (front_long part first S m.done) (omega arith) in
          record {
            done = m.done ++ (final x ∷ []);
            walk = walk_final s at m.done x next m.walk e;
            filled = record {
              room = let z = m.filled.room in omega arith;
              is =
                  ap (λ (l : List ℕ). set l (3 * k + 2) (final_flags k)) (m.filled.is
                  ∙ append_assoc (state_records part (flags m.done S)) (arc_records first S m.done) _)
                  ∙ t
                  ∙ sym (append_assoc (state_records part (set (flags m.done S) k (final_flags k))) (arc_records first S m.done) _)
                  ∙ rw (v, y);
            };
            upto = omega arith;
          }

    module _ (x y a next : ℕ) (e : line_at s at ≡ Arc x y a next) where
      arc_longer : Longer (m.done ++ (arc x y a ∷ [])) whole
      arc_longer = walk_longer s next (m.done ++ (arc x y a ∷ [])) whole (walk_arc s at m.done x y a next m.walk e) r.clear.good

      pub arc_source : (p : ℕ) → p ≡ idx L x → p < length L
      arc_source p q = let i = numbered x p q in let h = source_in m.done whole x y a arc_longer in let w = ap length r.clear.listed in omega arith

      pub arc_target : (p : ℕ) → p ≡ idx L y → p < length L
      arc_target p q = let i = numbered y p q in let h = target_in m.done whole x y a arc_longer in let w = ap length r.clear.listed in omega arith

      pub arc_place : used + 5 ≤ length out
      arc_place =
          let g = arc_longer in
          let h : arc_count whole ≡ arc_count (m.done ++ (arc x y a ∷ [])) + arc_count g.rest = ap arc_count g.is ∙ arcs_append _ g.rest in
          let c = arcs_snoc m.done (arc x y a) in
          let k = r.clear.enough in
          let l = flags_long whole S in
          let u = m.upto in
          let v = mid_long in
          omega arith

      pub mid_arc : (p q : ℕ) → p ≡ idx L x → q ≡ idx L y → (l : List ℕ)
          → l ≡ put out used (3 ∷ (first + p) ∷ a ∷ a ∷ (first + q) ∷ []) → Mid l o s part first next (used + 5)
      unfolding put
      mid_arc p q hp hq left is =
          let i = numbered x p hp in
          let j = numbered y q hq in
          let c = arcs_snoc m.done (arc x y a) in
          let u = m.upto in
          let l = front_long part first S m.done in
          let z = arc_place in
          let w = mid_long in
          let f : front part first S (m.done ++ (arc x y a ∷ [])) ≡ front part first S m.done ++ (3 ∷ (first + p) ∷ a ∷ a ∷ (first + q) ∷ [])
          = rw (flags_arc m.done x y a S, arcs_more first S m.done (arc x y a), i, j)
          (sym (append_assoc (state_records part (flags m.done S)) (arc_records first S m.done) _)) in
          record {
            done = m.done ++ (arc x y a ∷ []);
            walk = walk_arc s at m.done x y a next m.walk e;
            filled = rw (f, is) (fill_put out (front part first S m.done) o (3 ∷ (first + p) ∷ a ∷ a ∷ (first + q) ∷ []) used m.filled
                (omega arith) (omega arith));
            upto = omega arith;
          }

  pub put_start : (used : ℕ) → used ≡ after_states (length L) → Mid o o s part first 0 used
  unfolding after_states
  put_start used e = mid_start used e

  module _ (out : List ℕ) (at used : ℕ) (m : Mid out o s part first at used) where
    -- a line that is read, with the next one at `next`
    pub put_fits : (l : Said) (next : ℕ) → line_saying l next ≡ line_at s at → LineFits l L used (length out)
    put_fits l next e = record {
      states =
          let v : length (flags whole S) ≡ length (fresh (length L)) = flags_long whole S ∙ ap (λ (k : ℕ). length (fresh k)) (sym (ap length r.clear.listed)) in
          let h = mid_long out at used m in
          omega (arith, r.clear.enough, fresh_more (length L));
      listed = by_line l e;
    }
      where
        by_line : (k : Said) → line_saying k next ≡ line_at s at → Listed k L used (length out)
        by_line (final x) i = final_small out at used m x next _ (sym i) refl
        by_line (arc x y a) i = (
          arc_source out at used m x y a next (sym i) _ refl,
          arc_target out at used m x y a next (sym i) _ refl,
          arc_place out at used m x y a next (sym i),
        )

    pub put_more : (l : Said) (next : ℕ) → line_saying l next ≡ line_at s at → (k : ℕ) (new : List ℕ) → line_leaves k new ≡ line_def l L first used out
        → Mid new o s part first next k
    put_more l next e k new is = subst (λ (d : AfterLine). Mid d.out o s part first next d.used) (sym is) (by_line l e)
      where
        by_line : (j : Said) → line_saying j next ≡ line_at s at → Mid (line_def j L first used out).out o s part first next (line_def j L first used out).used
        by_line (final x) i = mid_final out at used m x next _ (sym i) refl
        by_line (arc x y a) i = mid_arc out at used m x y a next (sym i) _ _ refl refl _ refl

    -- the text is accepted: no line of it is faulty
    pub put_reads : (b : Result (Option read.Line) Refusal) (next : ℕ) → line_advanced b next ≡ line_at s at → is_ok b ≡ true
    put_reads (Ok o) next e = refl
    put_reads (Err c) next e = absurd (mid_faulty out at used m _ (sym e))

    pub put_end : End ≡ line_at s at → Filled out (written part first whole) o
    put_end e = mid_end out at used m (sym e)
