-- A sheet brought from the second buffer to the first.
-- Assumes nothing.
use mathlib.Core.Path.{◌≡◌, sym, ap, ap₂, ◌∙◌}
use mathlib.Core.List.{◌++◌, append_assoc}
use Prim.Native.Nat.{ℕ, ◌+◌, ◌-◌, ◌≤◌}
use native.Mathlib.Omega.{arith}
use lib.ListN.{length, take, drop, replicate, length-append, length-drop, length-replicate, replicate-append-replicate}
use lib.Seq.{length-take-le, take-append_seam, drop-drop, drop_at}
use Rattle.formula.specs.Tree.{Formula}
use Rattle.sheet.specs.Format.{Bytes, Format}
use Rattle.sheet.specs.Sheet.{sheet}
use Rattle.sheet.specs.Operations.{padded}
use Rattle.solve.specs.Inner.Running.{ZerosBehind}

-- the first bytes of one buffer copied to another, and the rest cleared
pub cleared : (c d : Bytes) (n : ℕ) {mid new : Bytes} → n ≤ length c → n ≤ length d → mid ≡ take n c ++ drop (length (take n c)) d
    → new ≡ take n mid ++ replicate (length mid - n) 0 → new ≡ padded (length d) (take n c)
unfolding padded
cleared c d n {mid} {new} in_c in-d m e =
    let s = take n c in
    let long : length s ≡ n = length-take-le n c in_c in
    let size : length mid ≡ length d = ap length m ∙ length-append s (drop (length s) d) ∙ omega (arith, length-drop (length s) d, long) in
    e ∙
    ap₂ (λ (p : Bytes) k. p ++ replicate k 0) (ap₂ take (sym long) m ∙ take-append_seam s (drop (length s) d))
    (ap₂ (λ a b. a - b) size (sym long))

-- the same to the first part of a buffer that has zeros behind it
pub cleared_part : (c d : Bytes) (n part old : ℕ) {front new : Bytes} → n ≤ length c → n ≤ part → old ≤ part → part ≤ length d → ZerosBehind old d
    → front ≡ padded (length (take part d)) (take n c) → new ≡ front ++ drop part d → new ≡ padded (length d) (take n c)
unfolding padded
cleared_part c d n part old {front} {new} in_c before after in-d z f e =
    e ∙ ap₂ (λ (p q : Bytes). p ++ q) (f ∙ ap₂ (λ a b. take n c ++ replicate (a - b) 0) (length-take-le part d in-d) long) behind ∙
    append_assoc (take n c) (replicate (part - n) 0) (replicate (length d - part) 0) ∙
    ap (λ l. take n c ++ l) (replicate-append-replicate (part - n) (length d - part) 0) ∙ ap (λ m. take n c ++ replicate m 0) whole
  where
    long : length (take n c) ≡ n
    long = length-take-le n c in_c

    whole : part - n + (length d - part) ≡ length d - length (take n c)
    whole = omega (arith, long)

    parts : length d - old ≡ part - old + (length d - part)
    parts = omega arith

    back : old + (part - old) ≡ part
    back = omega arith

    behind : drop part d ≡ replicate (length d - part) 0
    behind =
        ap (λ m. drop m d) (sym back) ∙ sym (drop-drop (part - old) old d) ∙
        ap (drop (part - old)) (z.zeros ∙ ap (λ m. replicate m 0) parts ∙ sym (replicate-append-replicate (part - old) (length d - part) 0)) ∙
        drop_at (replicate (part - old) 0) (replicate (length d - part) 0) (part - old) (length-replicate (part - old) 0)

module _ (F : Format) (f : Formula) where
  -- a sheet at the front of a buffer
  pub front_part : (rest : Bytes) {b : Bytes} {end : ℕ} → b ≡ sheet F f ++ rest → end ≡ length (sheet F f) → take end b ≡ sheet F f
  front_part rest e l = ap₂ take l e ∙ take-append_seam (sheet F f) rest

  -- one at the front of a part of it
  pub in_front : (len : ℕ) (behind : Bytes) {part b : Bytes} → part ≡ padded len (sheet F f) → b ≡ part ++ behind
      → b ≡ sheet F f ++ (replicate (len - length (sheet F f)) 0 ++ behind)
  unfolding padded
  in_front len behind p e = e ∙ ap (λ l. l ++ behind) p ∙ append_assoc (sheet F f) (replicate (len - length (sheet F f)) 0) behind
