-- Taking a packed answer apart gives it back, where its values are in their ranges.
-- Assumes nothing.
use mathlib.Core.Path.{◌≡◌, refl, ap, ap₂, ◌∙◌}
use mathlib.Core.Bool.{true, false, cond}
use mathlib.Core.Option.{none, some}
use Prim.Native.Nat.{ℕ, ◌<◌}
use native.Mathlib.Omega.{arith}
use lib.Dec.{eqb}
use Rattle.formula.specs.Join.{Answer as Known}
use Rattle.sheet.specs.Check.{Answer, refused, accepted}
use Rattle.sheet.specs.Decide.{DecideAnswer, decide_refused, decide_ended, decide_no_place, decide_spent}
use Rattle.packing.specs.Packed.{packed}
use Rattle.packing.specs.Unpacked.{number_of, word_of, low_of, high_of, Tellable}
use Rattle.packing.proofs.Unpacking.{number_back, word_back, low_back, high_back, refused_places, not_accepted, unpack_refused, places, is_accepted}
use Rattle.capi_decide.specs.Packed.{packed_decided, packed_joined}
use Rattle.capi_decide.specs.Unpacked.{ended_by, unpacked_decided, FitsDecided, unpacked_joined, FitsJoined}

-- a refusal, of any type of answers, and what is accepted
module _ {A : Type 0} (accept : ℕ → ℕ → A) (refuse : ℕ → ℕ → A) where
  abbrev taken : ℕ → A
  taken m = cond (eqb (number_of m) 0) (accept (word_of m) (high_of m)) (refuse (number_of m) (low_of m))

  pub back_refused : {n i : ℕ} → Tellable n i → taken (packed n 0 i 0) ≡ refuse n i
  back_refused {n} {i} t =
      let p = refused_places 0 (omega arith) t in
      let m = packed n 0 i 0 in
      ap (λ c. cond c (accept (word_of m) (high_of m)) (refuse (number_of m) (low_of m))) (not_accepted 0 (omega arith) t) ∙
      ap₂ refuse (number_back n 0 i 0 p) (low_back n 0 i 0 p)

  pub back_accepted : (w h : ℕ) → w < 256 → h < 4294967296 → taken (packed 0 w 0 h) ≡ accept w h
  back_accepted w h l few =
      let p = places w 0 h l (omega arith) few in
      let m = packed 0 w 0 h in
      ap (λ c. cond c (accept (word_of m) (high_of m)) (refuse (number_of m) (low_of m))) (is_accepted p) ∙
      ap₂ accept (word_back 0 w 0 h p) (high_back 0 w 0 h p)

pub unpack_decided : (a : DecideAnswer) → FitsDecided a → unpacked_decided (packed_decided a) ≡ a
unfolding packed_decided
unpack_decided (decide_refused number place) t = back_refused ended_by decide_refused t
unpack_decided (decide_ended true runs) l = back_accepted ended_by decide_refused 1 runs (omega arith) l
unpack_decided (decide_ended false runs) l = back_accepted ended_by decide_refused 0 runs (omega arith) l
unpack_decided (decide_no_place runs) l = back_accepted ended_by decide_refused 2 runs (omega arith) l
unpack_decided (decide_spent runs) l = back_accepted ended_by decide_refused 3 runs (omega arith) l

pub unpack_joined : (a : Answer Known) → FitsJoined a → unpacked_joined (packed_joined a) ≡ a
unfolding packed_joined
unpack_joined (refused number place) t = unpack_refused _ t
unpack_joined (accepted none) t = refl
unpack_joined (accepted (some true)) t = refl
unpack_joined (accepted (some false)) t = refl
