-- The walk over the codes of a part, for one at fault.
-- Assumes nothing.
use mathlib.Core.Path.{◌≡◌, sym, ap, ◌∙◌}
use mathlib.Core.Bool.{Bool, true, false, not, ◌||◌}
use mathlib.Core.List.{List}
use Prim.Native.Nat.{ℕ, ◌+◌, ◌≤◌, ◌<◌}
use lib.ListN.{length, get_or}
use lib.Seq.{slice}
use Rattle.sheet.specs.Certificates.{code_of}
use Rattle.resolution.specs.Codes.{kept, some_kept}
use Rattle.resolution.proofs.Codes.{some_head, some_none}

-- what is left of a part has a code at fault exactly if the part has
module _ (skip : ℕ) (codes : List ℕ) (to : ℕ) (P : ℕ → Bool) (all : Bool) where
  abbrev pub Seeking : ℕ → Type 0
  Seeking i = some_kept skip P (slice i to codes) ≡ all

  module _ (i c : ℕ) (passed : Bool) (inside : i < to) (within : to ≤ length codes) (is_code : c ≡ code_of (get_or codes i 0))
      (tested : not passed ≡ kept skip P c) (now : Seeking i) where
    here : (kept skip P c || some_kept skip P (slice (i + 1) to codes)) ≡ all
    here = sym (some_head skip codes to P i c inside within is_code) ∙ now

    pub seek_found : not passed ≡ true → true ≡ all
    seek_found h = ap (λ b. b || some_kept skip P (slice (i + 1) to codes)) (sym h ∙ tested) ∙ here

    pub seek_on : not passed ≡ false → Seeking (i + 1)
    seek_on h = ap (λ b. b || some_kept skip P (slice (i + 1) to codes)) (sym h ∙ tested) ∙ here

  pub seek-none : (i : ℕ) → to ≤ i → Seeking i → false ≡ all
  seek-none i h now = sym (some_none skip codes to P i h) ∙ now
