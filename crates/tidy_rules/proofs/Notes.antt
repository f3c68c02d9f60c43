-- Members and the literals that they name.
-- Assumes nothing.
use mathlib.Core.Path.{◌≡◌, refl, sym, ap, ◌∙◌, subst}
use mathlib.Core.Bool.{Bool, true, false, ◌||◌}
use mathlib.Core.List.{List, [], ◌++◌, append_assoc, append-nil}
use Prim.Native.Nat.{ℕ, zero, suc, ◌+◌, ◌*◌, ◌/◌, ◌%◌, ◌≤◌, ◌<◌}
use native.Mathlib.Nat.{add-zero}
use native.Mathlib.Omega.{arith}
use lib.Dec.{eqb}
use lib.ListN.{length, get_or}
use lib.Seq.{get_or-take, length-take-le}
use borrow.Author.Tests.{eq-eqb, eqb-true, le-leb, lt-leb}
use Rattle.formula.specs.Tree.{Op, and, or, Tree, lit, node, ∅, ◌▸◌, some_child}
use Rattle.formula.specs.Tidy.{same_tree, same_variable}
use Rattle.formula.proofs.Tidy.Same.{same_tree_same}
use Rattle.formula.proofs.Booleans.{or-none, or_later}
use Rattle.sheet.specs.Format.{Row, row}
use Rattle.sheet.specs.Sheet.{literal_kind}
use Rattle.buckets.specs.Chains.{BUCKETS, bucket}
use Rattle.buckets.specs.Halves.{member_of, row_of}
use Rattle.buckets.specs.Hashes.{literal_mix, sign, hash}
use Rattle.buckets.proofs.Halves.{row_made, hash-made}
use Rattle.buckets.proofs.Hashes.{hash_few, literal-bucket}
use Rattle.tidy_rules.specs.Segments.{Segment, gone, literal, operator, Segments, none, ◌◂◌, ◌⊕◌, head, segment_rows, size, grown, live, Here, Stands}
use Rattle.tidy_rules.specs.Walks.{at_row}
use Rattle.tidy_rules.specs.Rules.{note, notes, Noted, literal_test, Member, Duplicate}
use Rattle.tidy_rules.specs.Entered.{LiveAt, Same}
use Rattle.tidy_rules.proofs.Segments.{length-◂, stands, stands_row, onward}
use Rattle.tidy_rules.proofs.Walks.{like}

pub notes-⊕ : (r : ℕ) (bs cs : Segments) → notes r (bs ⊕ cs) ≡ notes r bs ++ notes (r + length (segment_rows bs)) cs
unfolding notes ◌⊕◌ segment_rows
notes-⊕ r none cs = ap (λ q. notes q cs) (sym (add-zero r))
notes-⊕ r (x ◂ bs) cs =
    ap (λ l. note r x ++ l) (notes-⊕ (r + size x) bs cs) ∙ sym (append_assoc (note r x) (notes (r + size x) bs) _) ∙
    ap (λ q. (note r x ++ notes (r + size x) bs) ++ notes q cs) (omega (arith, length-◂ x bs))

pub notes_snoc : (r : ℕ) (bs : Segments) (x : Segment) {at : ℕ} → r + length (segment_rows bs) ≡ at
    → notes r (bs ⊕ (x ◂ none)) ≡ notes r bs ++ note at x
unfolding notes
notes_snoc r bs x e = notes-⊕ r bs (x ◂ none) ∙ ap (λ l. notes r bs ++ l) (append-nil _ ∙ ap (λ q. note q x) e)

pub notes_dead : (r : ℕ) (bs : Segments) → live bs ≡ ∅ → notes r bs ≡ []
unfolding notes note live grown
notes_dead r none e = refl
notes_dead r (gone rs ◂ bs) e = notes_dead (r + size (gone rs)) bs e
notes_dead r (literal s v ◂ bs) e = let z : ◌≡◌ {A = ℕ} 0 1 = cc in absurd (omega arith)
notes_dead r (operator o ks ◂ bs) e = let z : ◌≡◌ {A = ℕ} 0 1 = cc in absurd (omega arith)

pub note_dead : (r : ℕ) (x : Segment) → (head x).kind ≡ 0 → note r x ≡ []
unfolding note head
note_dead r (gone rs) e = refl
note_dead r (literal true v) e = absurd (omega arith)
note_dead r (literal false v) e = absurd (omega arith)
note_dead r (operator and ks) e = absurd (omega arith)
note_dead r (operator or ks) e = absurd (omega arith)

-- a member's row and bucket: the row is no part of the bucket, and neither is a literal's sign

low_bits : (r y : ℕ) → (r * 8192 + y) % BUCKETS ≡ y % BUCKETS
low_bits r y = omega arith

pub bucket-made : (r q : ℕ) → bucket (member_of r q) ≡ bucket q
bucket-made r q = ap (λ z. z % BUCKETS) (divided r q) ∙ low_bits r (q / 8)
  where
    divided : (r q : ℕ) → member_of r q / 8 ≡ r * 8192 + q / 8
    divided r q = omega arith

abbrev operator_tree : Op → Segments → Tree
operator_tree o ks = node o (live ks)

row_operator : (r : ℕ) (o : Op) (ks : Segments) → row_of (member_of r (hash (operator_tree o ks))) ≡ r
row_operator r o ks = row_made r (hash (operator_tree o ks)) (hash_few (operator_tree o ks))

row-note : (r : ℕ) (s : Bool) (v : ℕ) → row_of (member_of r (literal_mix (sign s) v)) ≡ r
row-note r true v = omega arith
row-note r false v = omega arith

bucket-note : (r : ℕ) (s s' : Bool) (v : ℕ) → bucket (member_of r (literal_mix (sign s) v)) ≡ bucket (literal_mix (sign s') v)
bucket-note r s s' v = bucket-made r (literal_mix (sign s) v) ∙ literal-bucket s v ∙ sym (literal-bucket s' v)

-- members by their numbers

pub notes-places : (r : ℕ) (bs : Segments) (j : ℕ) → j < length (notes r bs) → row_of (get_or (notes r bs) j 0) < r + length (segment_rows bs)
unfolding notes note
notes-places r none j l = absurd (omega arith)
notes-places r (gone rs ◂ bs) j l = omega (arith, length-◂ (gone rs) bs, notes-places (r + size (gone rs)) bs j l)
notes-places r (operator o ks ◂ bs) zero l = omega (arith, row_operator r o ks, length-◂ (operator o ks) bs)
notes-places r (operator o ks ◂ bs) (suc j) l =
    omega (arith, length-◂ (operator o ks) bs, notes-places (r + size (operator o ks)) bs j (omega arith))
notes-places r (literal s v ◂ bs) zero l = omega (arith, row-note r s v, length-◂ (literal s v) bs)
notes-places r (literal s v ◂ bs) (suc j) l =
    omega (arith, length-◂ (literal s v) bs, notes-places (r + size (literal s v)) bs j (omega arith))

pub noted_count : {M : List ℕ} {n from : ℕ} {bs : Segments} → Noted M n from bs → length (notes from bs) ≡ n
noted_count {M} {n} m = ap length (sym m.are) ∙ length-take-le n M m.fit

pub noted_at : {M : List ℕ} {n from : ℕ} {bs : Segments} → Noted M n from bs → (j : ℕ) → j < n → get_or M j 0 ≡ get_or (notes from bs) j 0
noted_at {M} {n} m j l = sym (get_or-take n M j 0 l) ∙ ap (λ (l : List ℕ). get_or l j 0) m.are

-- the test of a literal's variable

pub literal_test_operator : {k : ℕ} (r : Row) (x : ℕ) → k ≡ r.kind → 4 < k → false ≡ literal_test r x
literal_test_operator r x e l = rw (lt-leb r.kind 4 (omega arith))

pub literal_test-literal : {k a : ℕ} (r : Row) (x : ℕ) → k ≡ r.kind → k ≤ 4 → a ≡ r.argument → eqb a x ≡ literal_test r x
literal_test-literal r x e l f = rw (le-leb r.kind 4 (omega arith)) (ap (λ v. eqb v x) f)

-- a literal's row passes the test of its variable
literal-passes : (s : Bool) (v x : ℕ) → v ≡ x → literal_test (head (literal s v)) x ≡ true
unfolding head
literal-passes true v x e = eq-eqb v x e
literal-passes false v x e = eq-eqb v x e

literal_like : (v x : ℕ) (s' s : Bool) → head (literal s' v) ≡ row (literal_kind s) x → like s x (lit s' v) ≡ true
unfolding head same_tree
literal_like v x true true e = rw (eq-eqb v x (ap (λ (r : Row). r.argument) e))
literal_like v x true false e = absurd (omega (arith, ap (λ (r : Row). r.kind) e))
literal_like v x false true e = absurd (omega (arith, ap (λ (r : Row). r.kind) e))
literal_like v x false false e = rw (eq-eqb v x (ap (λ (r : Row). r.argument) e))

-- where no member of a literal's bucket is a literal of its variable, no tree is
pub unseen : {R : List Row} {from at to : ℕ} {before after : List Row} {done : Segments} (rest : Segments) (s : Bool) (x : ℕ)
    → Here R from at to before done rest after
    → ((j : ℕ) → j < length (notes at rest) → bucket (get_or (notes at rest) j 0) ≡ bucket (literal_mix (sign s) x)
    → literal_test (at_row R (row_of (get_or (notes at rest) j 0))) x ≡ true → ⊥)
    → some_child (λ t. same_variable t (lit s x)) (live rest) ≡ false
unfolding notes note live grown some_child same_variable
unseen none s x h q = refl
unseen {at = at} (gone rs ◂ rest) s x h q = unseen {at = at + size (gone rs)} rest s x (onward h) q
unseen (operator o ks ◂ rest) s x h q = unseen rest s x (onward h) (λ j l. q (suc j) (omega arith))
unseen {R} {at = at} (literal s' v ◂ rest) s x h q =
    or-none (go (eqb v x) refl) (unseen rest s x (onward h) (λ j l. q (suc j) (omega arith)))
  where
    go : (t : Bool) → eqb v x ≡ t → t ≡ false
    go false e = refl
    go true e =
        let same : v ≡ x = eqb-true v x e in
        absurd
        (q 0 (omega arith) (bucket-note at s' s v ∙ ap (λ w. bucket (literal_mix (sign s) w)) same)
        (ap (λ p. literal_test (at_row R p) x) (row-note at s' v) ∙ ap (λ (r : Row). literal_test r x) (stands_row (stands h)) ∙
        literal-passes s' v x same))

no_literal : (o : Op) (ks : Segments) (s : Bool) → (head (operator o ks)).kind ≡ literal_kind s → ⊥
unfolding head
no_literal and ks true e = omega arith
no_literal and ks false e = omega arith
no_literal or ks true e = omega arith
no_literal or ks false e = omega arith

-- a member whose row is a literal's is that literal
pub seen : {R : List Row} {from at to : ℕ} {before after : List Row} {done : Segments} (rest : Segments) (s : Bool) (x : ℕ)
    → Here R from at to before done rest after → (j : ℕ) → j < length (notes at rest)
    → at_row R (row_of (get_or (notes at rest) j 0)) ≡ row (literal_kind s) x → some_child (like s x) (live rest) ≡ true
unfolding notes note live grown some_child
seen none s x h j l e = absurd (omega arith)
seen {at = at} (gone rs ◂ rest) s x h j l e = seen {at = at + size (gone rs)} rest s x (onward h) j l e
seen {R} {at = at} (operator o ks ◂ rest) s x h zero l e =
    absurd (no_literal o ks s (ap (λ (r : Row). r.kind) (sym (stands_row (stands h)) ∙ sym (ap (at_row R) (row_operator at o ks)) ∙ e)))
seen (operator o ks ◂ rest) s x h (suc j) l e = or_later (like s x (node o (live ks))) (seen rest s x (onward h) j (omega arith) e)
seen {R} {at = at} (literal s' v ◂ rest) s x h zero l e =
    ap (λ b. b || some_child (like s x) (live rest))
    (literal_like v x s' s (sym (stands_row (stands h)) ∙ sym (ap (at_row R) (row-note at s' v)) ∙ e))
seen {at = at} (literal s' v ◂ rest) s x h (suc j) l e = or_later (like s x (lit s' v)) (seen rest s x (onward h) j (omega arith) e)

-- a member is a live segment
pub member_lives : {R : List Row} {from at to : ℕ} {before after : List Row} {done : Segments} (rest : Segments)
    → Here R from at to before done rest after → (j : ℕ) → j < length (notes at rest) → LiveAt R (row_of (get_or (notes at rest) j 0))
unfolding notes note live grown
member_lives none h j l = absurd (omega arith)
member_lives {at = at} (gone rs ◂ rest) h j l = member_lives {at = at + size (gone rs)} rest (onward h) j l
member_lives {R} {at = at} (literal s v ◂ rest) h zero l =
    subst (LiveAt R) (sym (row-note at s v)) (record { before = _; segment = literal s v; after = _; stands = stands h; tree = _; holds = refl })
member_lives (literal s v ◂ rest) h (suc j) l = member_lives rest (onward h) j (omega arith)
member_lives {R} {at = at} (operator o ks ◂ rest) h zero l =
    subst (LiveAt R) (sym (row_operator at o ks)) (record { before = _; segment = operator o ks; after = _; stands = stands h; tree = _; holds = refl })
member_lives (operator o ks ◂ rest) h (suc j) l = member_lives rest (onward h) j (omega arith)

-- where no member of a tree's bucket holds the same tree, none does
module _ (u : Tree) where
  abbrev Fresh : List Row → List ℕ → Type 0
  Fresh R N = (j : ℕ) → j < length N → bucket (get_or N j 0) ≡ bucket (hash u) → Duplicate R (get_or N j 0) u → ⊥

  differs : {R : List Row} {at : ℕ} {front back : List Row} (x : Segment) (t : Tree) → Stands R at front x back → live (x ◂ none) ≡ t ▸ ∅
      → (bucket (member_of at (hash t)) ≡ bucket (hash u) → Duplicate R (member_of at (hash t)) u → ⊥) → same_tree t u ≡ false
  differs {R} {at} {front} {back} x t h e q = go (same_tree t u) refl
    where
      own : Member R (member_of at (hash t))
      own =
          record {
            lives =
                record {
                  before = front;
                  segment = x;
                  after = back;
                  stands = subst (λ p. Stands R p front x back) (sym (row_made at (hash t) (hash_few t))) h;
                  tree = t;
                  holds = e;
                };
            hashed = hash-made at (hash t) (hash_few t);
          }

      go : (b : Bool) → same_tree t u ≡ b → b ≡ false
      go false s = refl
      go true s =
          absurd
          (q (bucket-made at (hash t) ∙ ap (λ w. bucket (hash w)) (same_tree_same t u s))
          (record { member = own; same = s }))

  pub unseen_duplicate : {R : List Row} {from at to : ℕ} {before after : List Row} {done : Segments} (rest : Segments)
      → Here R from at to before done rest after → Fresh R (notes at rest) → some_child (λ t. same_tree t u) (live rest) ≡ false
  unfolding notes note live grown some_child hash
  unseen_duplicate none h q = refl
  unseen_duplicate {at = at} (gone rs ◂ rest) h q = unseen_duplicate {at = at + size (gone rs)} rest (onward h) q
  unseen_duplicate (literal s v ◂ rest) h q =
      or-none (differs (literal s v) (lit s v) (stands h) refl (q 0 (omega arith))) (unseen_duplicate rest (onward h) (λ j l. q (suc j) (omega arith)))
  unseen_duplicate (operator o ks ◂ rest) h q =
      or-none (differs (operator o ks) (node o (live ks)) (stands h) refl (q 0 (omega arith))) (unseen_duplicate rest (onward h) (λ j l. q (suc j) (omega arith)))

-- and a member that holds the same tree is among them
pub seen_duplicate : {R : List Row} {from at to q : ℕ} {before after front back : List Row} {done : Segments} (rest : Segments) (y : Segment) (u : Tree)
    → Stands R q front y back → live (y ◂ none) ≡ u ▸ ∅
    → Here R from at to before done rest after → (j : ℕ) → j < length (notes at rest) → Same R (row_of (get_or (notes at rest) j 0)) q true
    → some_child (λ t. same_tree t u) (live rest) ≡ true
unfolding notes note live grown some_child
seen_duplicate none y u g e h j l d = absurd (omega arith)
seen_duplicate {at = at} (gone rs ◂ rest) y u g e h j l d = seen_duplicate {at = at + size (gone rs)} rest y u g e (onward h) j l d
seen_duplicate {R} {at = at} {q = q} (literal s v ◂ rest) y u g e h zero l d =
    ap (λ b. b || some_child (λ t. same_tree t u) (live rest))
    (sym (subst (λ p. Same R p q true) (row-note at s v) d _ (literal s v) _ (stands h) _ refl _ y _ g u e))
seen_duplicate (literal s v ◂ rest) y u g e h (suc j) l d = or_later (same_tree (lit s v) u) (seen_duplicate rest y u g e (onward h) j (omega arith) d)
seen_duplicate {R} {at = at} {q = q} (operator o ks ◂ rest) y u g e h zero l d =
    ap (λ b. b || some_child (λ t. same_tree t u) (live rest))
    (sym (subst (λ p. Same R p q true) (row_operator at o ks) d _ (operator o ks) _ (stands h) _ refl _ y _ g u e))
seen_duplicate (operator o ks ◂ rest) y u g e h (suc j) l d =
    or_later (same_tree (node o (live ks)) u) (seen_duplicate rest y u g e (onward h) j (omega arith) d)
