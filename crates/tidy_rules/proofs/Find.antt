-- Searches along a chain of members.
-- Assumes nothing.
use mathlib.Core.Path.{◌≡◌, refl, sym, ap, ◌∙◌, subst}
use mathlib.Core.Bool.{Bool, true, false, false≢true, true≢false}
use mathlib.Core.List.{List}
use mathlib.Core.Logic.{inl, inr, ⊎_elim}
use Prim.Native.Nat.{ℕ, ◌<◌}
use native.Mathlib.Omega.{arith}
use lib.ListN.{length, get_or}
use Rattle.formula.specs.Tidy.{same_tree}
use Rattle.formula.proofs.Tidy.Same.{same_tree_same}
use Rattle.sheet.specs.Format.{Row}
use Rattle.buckets.specs.Chains.{entry_of, last, Linked, Passed}
use Rattle.buckets.specs.Halves.{row_of, hash_of}
use Rattle.std.specs.Prelude.{Option, Some, None, is_some}
use Rattle.buckets.proofs.Hashes.{hashes_differ}
use Rattle.buckets.proofs.Chains.{passed_none, passed_more, link_down}
use Rattle.tidy_rules.specs.Walks.{at_row}
use Rattle.tidy_rules.specs.Entered.{LiveAt, Same}
use Rattle.tidy_rules.specs.Rules.{literal_test, Test, Chain, Found, Tells, Seeks, Finds, Member, Duplicate, Duplicates, FindsDuplicate, LiveChain}

pub record Seek (L M : List ℕ) (start : Option ℕ) (T : ℕ → Type 0) (l : Option ℕ) : Type 0 where
  pub passed : (H : List ℕ) (n k : ℕ) → Linked H L M n → start ≡ last M k n → Passed M n k T l

pub seek-none : {L M : List ℕ} {start : Option ℕ} {T : ℕ → Type 0} → Seek L M start T start
seek-none = record { passed = λ H n k lk e. passed_none e }

-- what holds at a member
pub record Sought (rows : ℕ) (L M : List ℕ) (i count : ℕ) : Type 0 where
  pub in_members : i < length M
  pub in_links : i < length L
  pub in_rows : row_of (get_or M i 0) < rows
  pub in_chain : i < count

module _ {L M : List ℕ} {start l : Option ℕ} {T : ℕ → Type 0} {i : ℕ} (w : Seek L M start T l) (told : l ≡ Some i) where
  pub sought : {rows : ℕ} (c : Chain rows L M start) → Sought rows L M i c.count
  sought c =
      let p = w.passed c.heads c.count c.bucket_of c.linked c.starts in
      let here : i < c.count = omega (arith, p.within, ap entry_of told) in
      record {
        in_members = omega (arith, here, c.members_fit);
        in_links = omega (arith, here, c.links_fit);
        in_rows = c.places i here;
        in_chain = here;
      }

  pub seek_less : {rows : ℕ} (r : Option ℕ) → Chain rows L M start → entry_of r ≡ get_or L i 0 → entry_of r < entry_of l
  seek_less r c e = link_down c.linked (w.passed c.heads c.count c.bucket_of c.linked c.starts).within told r e

  seek_on : (r : Option ℕ) → (T i → ⊥) → entry_of r ≡ get_or L i 0 → Seek L M start T r
  seek_on r f e =
      record { passed = λ H n k lk s. let p = w.passed H n k lk s in passed_more lk p.within told r e p f }

  seek_there : {S : ℕ → Type 0} → S i → Seeks L M start T S (Some i)
  seek_there f =
      record { tells = λ H n k lk s. record { within = omega (arith, (w.passed H n k lk s).within, ap entry_of told); passes = f } }

seek-last : {L M : List ℕ} {start l : Option ℕ} {T S : ℕ → Type 0} → Seek L M start T l → l ≡ None → Seeks L M start T S None
seek-last {M = M} {T = T} w e = record { tells = λ H n k lk s. subst (Passed M n k T) e (w.passed H n k lk s) }

-- a literal of a variable

module _ (R : List Row) (x : ℕ) {L M : List ℕ} {start l : Option ℕ} (w : Seek L M start (Test R M x) l) where
  pub seek_more : {i p : ℕ} (r : Option ℕ) → l ≡ Some i → p ≡ row_of (get_or M i 0) → false ≡ literal_test (at_row R p) x → entry_of r ≡ get_or L i 0
      → Seek L M start (Test R M x) r
  seek_more r told q t e = seek_on w told r (λ f. false≢true (t ∙ ap (λ (m : ℕ). literal_test (at_row R m) x) q ∙ f)) e

  pub seek_found : {i p : ℕ} → l ≡ Some i → p ≡ row_of (get_or M i 0) → literal_test (at_row R p) x ≡ true
      → Finds R L M start x (Some i)
  seek_found told q t = seek_there w told (ap (λ (m : ℕ). literal_test (at_row R m) x) (sym q) ∙ t)

  pub seek_end : l ≡ None → Finds R L M start x None
  seek_end e = seek-last w e

-- a segment that holds the same tree

pub duplicates_apart : {R : List Row} {t m : ℕ} → (hash_of t ≡ hash_of m → ⊥) → Duplicates R t m false
duplicates_apart d =
    inr (
      refl,
      (λ w f. hashes_differ f.member.lives.tree w.lives.tree (λ e. d (f.member.hashed ∙ e ∙ sym w.hashed)) (same_tree_same _ _ f.same)),
    )

pub duplicates_same : {R : List Row} {t m : ℕ} (d : Bool) → Same R (row_of t) (row_of m) d → Duplicates R t m d
duplicates_same true s = inl (refl, s)
duplicates_same {R} {t} {m} false s = inr (refl, (λ w f. differ w.lives f.member.lives f.same))
  where
    differ : (v : LiveAt R (row_of m)) (u : LiveAt R (row_of t)) → same_tree u.tree v.tree ≡ true → ⊥
    differ v u e =
        false≢true
        (s u.before u.segment u.after u.stands u.tree u.holds v.before v.segment v.after v.stands v.tree v.holds ∙ e)

pub record SeekDuplicate (R : List Row) (L M : List ℕ) (start : Option ℕ) (m : ℕ) (l : Option ℕ) : Type 0 where
  pub seeks : (w : Member R m) → Seek L M start (λ j. Duplicate R (get_or M j 0) w.lives.tree) l

pub duplicate-none : {R : List Row} {L M : List ℕ} {start : Option ℕ} {m : ℕ} → SeekDuplicate R L M start m start
duplicate-none = record { seeks = λ w. seek-none }

module _ {R : List Row} {L M : List ℕ} {start : Option ℕ} {m : ℕ} {l : Option ℕ} (w : SeekDuplicate R L M start m l) where
  module _ {i : ℕ} (told : l ≡ Some i) where
    module _ {rows : ℕ} (c : LiveChain R rows L M start) (own : Member R m) where
      pub duplicate-sought : Sought rows L M i c.chain.count
      duplicate-sought = sought (w.seeks own) told c.chain

      pub duplicate-less : (r : Option ℕ) → entry_of r ≡ get_or L i 0 → entry_of r < entry_of l
      duplicate-less r e = seek_less (w.seeks own) told r c.chain e

    pub duplicate-more : {t : ℕ} (r : Option ℕ) → t ≡ get_or M i 0 → Duplicates R t m false → entry_of r ≡ get_or L i 0 → SeekDuplicate R L M start m r
    duplicate-more r at d e =
        record {
          seeks =
              λ v.
              seek_on (w.seeks v) told r
              (λ f. ⊎_elim (λ s. false≢true s.0) (λ s. s.1 v (subst (λ t. Duplicate R t v.lives.tree) (sym at) f)) d) e;
        }

    pub duplicate-found : {t : ℕ} → t ≡ get_or M i 0 → Duplicates R t m true → FindsDuplicate R L M start m (Some i)
    duplicate-found at d v =
        ⊎_elim (λ s. seek_there (w.seeks v) told (subst (λ t. Same R (row_of t) (row_of m) true) at s.1)) (λ s. absurd (true≢false s.0)) d

  pub duplicate_end : l ≡ None → FindsDuplicate R L M start m None
  duplicate_end e v = seek-last (w.seeks v) e

-- what a search tells

pub some_found : (l : Option ℕ) → is_some l ≡ true → (i : ℕ) × (l ≡ Some i)
some_found None e = absurd (false≢true e)
some_found (Some i) e = (i, refl)

pub none_found : (l : Option ℕ) → is_some l ≡ false → l ≡ None
none_found None e = refl
none_found (Some i) e = absurd (true≢false e)

module _ {H L M : List ℕ} {start l : Option ℕ} {n : ℕ} {T S : ℕ → Type 0} (k : ℕ) (w : Seeks L M start T S l) (lk : Linked H L M n)
    (e : start ≡ last M k n) where
  pub found : {i : ℕ} → l ≡ Some i → Found n S i
  found told = subst (Tells M n k T S) told (w.tells H n k lk e)

  pub unfound : l ≡ None → Passed M n k T None
  unfound told = subst (Tells M n k T S) told (w.tells H n k lk e)
