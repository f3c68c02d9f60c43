use Rattle.std.proofs.Common.{◌≡◌, ℕ, ◌+◌, ◌≤◌, List, ◌++◌, rules, arith, length, take, drop, sym, ap, ◌∙◌, subst, drop_at, length-take-le}
use Rattle.std.specs.Io.KnownBytes.{Consumes}
use Rattle.std.proofs.KnownBytes.{Consumes-trans}
use borrow.Rule.Slice.PartMut.{put_mid, post_of}
use lib.Seq.{take-append-le}
use lib.Seq.{take-add}
use Rattle.std.proofs.lemmas.Slice.{take-put_mid_below}
use Rattle.printing.proofs.input.read_full.Goals as goal

-- the front that was written before, and then the front of what was read
take_read : (a k n : ℕ) (xs ys : List ℕ) → a ≤ length xs → n ≤ length ys → take (a + n) (put_mid a k xs ys) ≡ take a xs ++ take n ys
take_read a k n xs ys within fits =
    let after = ys ++ post_of a k xs in
    take-add a n (put_mid a k xs ys)
    ∙ ap (λ l. l ++ take n (drop a (put_mid a k xs ys))) (take-put_mid_below a k xs ys a (omega arith) within)
    ∙ ap (λ l. take a xs ++ take n l) (drop_at (take a xs) after a (length-take-le a xs within))
    ∙ ap (λ l. take a xs ++ l) (take-append-le n ys (post_of a k xs) fits)

pub loop-done-preserved : goal.loop-done-preserved
loop-done-preserved g c = (
  search rules,
  search rules,
  subst (Consumes _ _) (sym (take_read _ _ _ _ _ c.loop-done.invariant.0 c.in_ok-count.ensures.bound.0))
      (Consumes-trans _ _ _ _ _ c.loop-done.invariant.2 c.in_ok-count.ensures.bytes.0),
)
