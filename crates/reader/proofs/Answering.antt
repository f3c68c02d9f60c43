-- What a call that reads leaves in a lent output.
-- Assumes nothing.
use mathlib.Core.Path.{◌≡◌}
use mathlib.Core.List.{List}
use Prim.Native.Nat.{ℕ}
use lib.ListN.{length}
use denote.MutBor.{MutBor}

pub record Left (out : MutBor (List ℕ)) (Said : List ℕ → Type 0) : Type 0 where
  pub bytes : List ℕ
  pub same : length bytes ≡ length out.now
  pub said : Said bytes
