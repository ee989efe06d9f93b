-- What REWRITE reports of its output stands within both buffers as they are afterwards, and what ACCOUNT reports within its lines. Assumes
-- nothing.
use Prim.Native.Nat.{ℕ, ◌*◌, ◌≤◌}
use native.Mathlib.Omega.{arith}
use mathlib.Core.Path.{◌≡◌}
use mathlib.Core.List.{List}
use lib.ListN.{length}
use Rattle.rewriter.specs.Replies.{AfterRewrite, rewrite_def, AfterAccount, account_def}
use Rattle.stretches.specs.Account.{line_length}
use Rattle.rewriter.proofs.Callers.{rewrite_out, rewrite_origins, rewrite_fits_out, rewrite_fits_origins, account_lines, account_fits}

module _ (book tape rows sets scratch out origins : List ℕ) {after : AfterRewrite} (is : after ≡ rewrite_def book tape rows sets scratch out origins) where
  pub fits_out : after.answer.length ≤ length after.out
  fits_out = rw is (omega (arith, rewrite_fits_out book tape rows sets scratch out origins, rewrite_out book tape rows sets scratch out origins))

  pub fits_origins : after.answer.length ≤ length after.origins
  fits_origins = rw is (omega (arith, rewrite_fits_origins book tape rows sets scratch out origins, rewrite_origins book tape rows sets scratch out origins))

module _ (book tape rows sets scratch lines : List ℕ) {after : AfterAccount} (is : after ≡ account_def book tape rows sets scratch lines) where
  pub fits_lines : line_length * after.answer.candidates ≤ length after.lines
  fits_lines = rw is (omega (arith, account_fits book tape rows sets scratch lines, account_lines book tape rows sets scratch lines))
