-- Members: how many there are, their hashes mixed, and the row of a lone one.
-- Assumes nothing.
use mathlib.Core.Path.{◌≡◌, refl, sym, ap, ◌∙◌}
use mathlib.Core.List.{[], ◌∷◌}
use Prim.Native.Nat.{ℕ, suc, ◌+◌}
use native.Mathlib.Omega.{arith}
use lib.ListN.{length}
use Rattle.formula.specs.Tree.{Op, and, or, Tree, lit, node, Forest, ∅, ◌▸◌, count}
use Rattle.sheet.specs.Sheet.{operator_kind}
use Rattle.buckets.specs.Halves.{member_of, row_of}
use Rattle.buckets.specs.Hashes.{mix, hash, hash_on}
use Rattle.buckets.proofs.Halves.{row_made, hash-made}
use Rattle.buckets.proofs.Hashes.{hash_few}
use Rattle.tidy_rules.specs.Segments.{gone, literal, operator, Segments, none, ◌◂◌, ◌⊕◌, segment_rows, size, grown, live}
use Rattle.tidy_rules.specs.Rules.{note, notes, mixes}
use Rattle.tidy_rules.proofs.Segments.{length-◂}

pub count_none : (ts : Forest) → count ts ≡ 0 → ts ≡ ∅
unfolding count
count_none ∅ e = refl
count_none (t ▸ ts) e = absurd (omega arith)

pub notes-count : (r : ℕ) (bs : Segments) → length (notes r bs) ≡ count (live bs)
unfolding notes note live grown count
notes-count r none = refl
notes-count r (gone rs ◂ bs) = notes-count (r + size (gone rs)) bs
notes-count r (literal s v ◂ bs) = ap suc (notes-count (r + size (literal s v)) bs)
notes-count r (operator o ks ◂ bs) = ap suc (notes-count (r + size (operator o ks)) bs)

mixes-notes : (h r : ℕ) (bs : Segments) → mixes h (notes r bs) ≡ hash_on h (live bs)
unfolding notes note live grown mixes hash_on hash
mixes-notes h r none = refl
mixes-notes h r (gone rs ◂ bs) = mixes-notes h (r + size (gone rs)) bs
mixes-notes h r (literal s v ◂ bs) =
    ap (λ p. mixes (mix h p) (notes (r + size (literal s v)) bs)) (hash-made r (hash (lit s v)) (hash_few (lit s v))) ∙
    mixes-notes (mix h (hash (lit s v))) (r + size (literal s v)) bs
mixes-notes h r (operator o ks ◂ bs) =
    ap (λ p. mixes (mix h p) (notes (r + size (operator o ks)) bs)) (hash-made r (hash (node o (live ks))) (hash_few (node o (live ks)))) ∙
    mixes-notes (mix h (hash (node o (live ks)))) (r + size (operator o ks)) bs

-- those of an operator's children mixed into its kind
pub mixes-hash : (o : Op) (r : ℕ) (bs : Segments) → mixes (operator_kind o) (notes r bs) ≡ hash (node o (live bs))
unfolding hash
mixes-hash and r bs = mixes-notes 5 r bs
mixes-hash or r bs = mixes-notes 6 r bs

-- a lone member: the segment of its row holds the only tree
pub record Lone (from p : ℕ) (bs : Segments) : Type 0 where
  pub done : Segments
  pub rest : Segments
  pub is : bs ≡ done ⊕ rest
  pub place : from + length (segment_rows done) ≡ p
  pub tree : Tree
  pub reads : live bs ≡ tree ▸ ∅
  pub holds : live rest ≡ tree ▸ ∅

no_notes : (r : ℕ) (bs : Segments) → notes r bs ≡ [] → live bs ≡ ∅
no_notes r bs e = count_none (live bs) (sym (notes-count r bs) ∙ ap length e)

pub lone : (from m : ℕ) (bs : Segments) → notes from bs ≡ m ∷ [] → Lone from (row_of m) bs
unfolding notes note live grown ◌⊕◌ segment_rows hash
lone from m none e = let z : ◌≡◌ {A = ℕ} 0 1 = ap length e in absurd (omega arith)
lone from m (gone rs ◂ bs) e =
    let l = lone (from + size (gone rs)) m bs e in
    record {
      done = gone rs ◂ l.done;
      rest = l.rest;
      is = ap (λ cs. gone rs ◂ cs) l.is;
      place = omega (arith, length-◂ (gone rs) l.done, l.place);
      tree = l.tree;
      reads = l.reads;
      holds = l.holds;
    }
lone from m (literal s v ◂ bs) e =
    let one : member_of from (hash (lit s v)) ≡ m = cc in
    let others : notes (from + size (literal s v)) bs ≡ [] = cc in
    let is : live (literal s v ◂ bs) ≡ lit s v ▸ ∅ = ap (λ ts. lit s v ▸ ts) (no_notes (from + size (literal s v)) bs others) in
    record {
      done = none;
      rest = literal s v ◂ bs;
      is = refl;
      place = omega (arith, row_made from (hash (lit s v)) (hash_few (lit s v)), ap row_of one);
      tree = lit s v;
      reads = is;
      holds = is;
    }
lone from m (operator o ks ◂ bs) e =
    let one : member_of from (hash (node o (live ks))) ≡ m = cc in
    let others : notes (from + size (operator o ks)) bs ≡ [] = cc in
    let is : live (operator o ks ◂ bs) ≡ node o (live ks) ▸ ∅ = ap (λ ts. node o (live ks) ▸ ts) (no_notes (from + size (operator o ks)) bs others) in
    record {
      done = none;
      rest = operator o ks ◂ bs;
      is = refl;
      place = omega (arith, row_made from (hash (node o (live ks))) (hash_few (node o (live ks))), ap row_of one);
      tree = node o (live ks);
      reads = is;
      holds = is;
    }
