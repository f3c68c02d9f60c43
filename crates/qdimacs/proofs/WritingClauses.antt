-- clause_length and write_clauses: a word a turn.
-- Assumes nothing.
use mathlib.Core.Path.{◌≡◌, refl, sym, ap, ap₂, ◌∙◌, subst}
use mathlib.Core.Bool.{Bool, true, false, not, ◌&&◌, cond, false≢true, and-false}
use Rattle.std.specs.Int.{from_bool}
use mathlib.Core.List.{List, [], ◌∷◌, ◌++◌, append_assoc, append-nil}
use Prim.Native.Nat.{ℕ, zero, suc, ◌+◌, ◌≤◌, ◌<◌}
use native.Mathlib.Omega.{arith}
use lib.Dec.{eqb, ltb, eqb-suc-zero}
use lib.ListN.{length, set, length-append}
use borrow.Author.Tests.{ne_eqb, le-ltb, leb-true}
use Rattle.formula.specs.Tree.{count}
use Rattle.formula.proofs.Booleans.{and_parts}
use Rattle.sheet.specs.Format.{Bytes, Row, row}
use Rattle.sheet.specs.Sheet.{literal_kind, tree_rows, forest_rows}
use Rattle.sheet.specs.Qdimacs.{split, all, pieces, ended_lists, Token, opener, plain, minus, other, is_plain, is_end, absolute, literals, clause_trees}
use Rattle.sheet.specs.Texts.{up_to, lists}
use Rattle.sheet.proofs.Preorder.{length-forest_rows}
use Rattle.sheet.proofs.Qdimacs.Rows.{count-literals}
use Rattle.rows.specs.declared.Layout.{Layout}
use Rattle.words.specs.Numbers.{Capped, largest}
use Rattle.words.specs.Literals.{literal, variable, kind}
use Rattle.words.specs.Tokens.{Reads}
use Rattle.words.specs.declared.token.Token as code
use Rattle.words.proofs.Classes.{View, view_other, view_exists, view_for_all, view_p, view_cnf, view_zero, view_plain, view_minus}
use Rattle.words.proofs.Values.{near, near_same, literal_kind_is}
use Rattle.qdimacs.specs.Inner.Lists.{whole_lists, first_length}
use Rattle.qdimacs.specs.Inner.Cursor.{tokens_at}
use Rattle.qdimacs.specs.Inner.Clauses.{literal_said, variable_said}
use Rattle.qdimacs.specs.Inner.Rows.{spliced, clause_rows, begins, open_place, open_rows, literal_row, word_place, word_rows, Writable}
use Rattle.qdimacs.specs.declared.write.ListPlace.{ListPlace}
use Rattle.qdimacs.proofs.Pieces.{lists_end, lists_more, onto}
use Rattle.qdimacs.proofs.Reading.{first, Cons, some_list, rows-lists}
use Rattle.qdimacs.proofs.Next.{Next, none, word, next}
use Rattle.qdimacs.proofs.Cutting.{no_tokens}
use Rattle.qdimacs.proofs.HeaderWords.{some_class}
use Rattle.qdimacs.proofs.Putting.{Put, put-none, put-row, put_all}

-- clause_length: the words so far belong to the clause

pub record Measured (b : Bytes) (from n at : ℕ) : Type 0 where
  pub inside : at ≤ length b
  pub so_far : first_length (tokens_at b from) ≡ n + first_length (tokens_at b at)
  pub fewer : n ≤ at

pub measured_none : (b : Bytes) (from : ℕ) → from ≤ length b → Measured b from 0 from
measured_none b from l = record { inside = l; so_far = omega arith; fewer = omega arith }

length_word : {k m : ℕ} {w : Token} (us : List Token) → View k w m → (k ≡ 6 → ⊥) → first_length (w ∷ us) ≡ suc (first_length us)
unfolding first_length
length_word us view_other n = refl
length_word us view_exists n = refl
length_word us view_for_all n = refl
length_word us view_p n = refl
length_word us view_cnf n = refl
length_word us view_zero n = absurd (n refl)
length_word us view_plain n = refl
length_word us view_minus n = refl

length_end : {k m : ℕ} {w : Token} (us : List Token) → View k w m → k ≡ 6 → first_length (w ∷ us) ≡ 0
unfolding first_length
length_end us view_other e = absurd (omega arith)
length_end us view_exists e = absurd (omega arith)
length_end us view_for_all e = absurd (omega arith)
length_end us view_p e = absurd (omega arith)
length_end us view_cnf e = absurd (omega arith)
length_end us view_zero e = refl
length_end us view_plain e = absurd (omega arith)
length_end us view_minus e = absurd (omega arith)

module _ {b : Bytes} {from n at : ℕ} (h : Measured b from n at) {t : code.Token} (r : Reads b at t) where
  pub measured_end : t.class ≡ 6 → n ≡ first_length (tokens_at b from)
  measured_end e = go (next r)
    where
      go : Next b at t → n ≡ first_length (tokens_at b from)
      go (none k p q) = absurd (omega (arith, e, k))
      go (word v c p) = omega (arith, h.so_far, ap first_length p, length_end (tokens_at b t.to) v e)

  pub measured_word : {one : ℕ} → at < length b → (t.class ≡ 6 → ⊥) → one ≡ from_bool (not (eqb t.class 0)) → Measured b from (n + one) t.to
  measured_word {one} l e o = go (next r)
    where
      go : Next b at t → Measured b from (n + one) t.to
      go (none k p q) =
          let z = o ∙ ap (λ j. from_bool (not (eqb j 0))) k in
          record { inside = r.inside; so_far = omega (arith, h.so_far, ap first_length (p ∙ sym q)); fewer = omega (arith, h.fewer, r.onward l) }
      go (word v c p) =
          let z = o ∙ ap (λ b. from_bool (not b)) (some_class v) in
          record {
            inside = r.inside;
            so_far = omega (arith, h.so_far, ap first_length p, length_word (tokens_at b t.to) v e);
            fewer = omega (arith, h.fewer, r.onward l);
          }

pub measured_all : {b : Bytes} {from n at : ℕ} → Measured b from n at → length b ≤ at → n ≡ first_length (tokens_at b from)
unfolding first_length
measured_all {b} {from} {n} {at} h l = omega (arith, h.so_far, ap first_length (no_tokens b at l))

pub first_length_few : (ts : List Token) → first_length ts ≤ length ts
unfolding first_length
first_length_few [] = omega arith
first_length_few (opener q ∷ ts) = let h = first_length_few ts in omega arith
first_length_few (plain zero ∷ ts) = omega arith
first_length_few (plain (suc n) ∷ ts) = let h = first_length_few ts in omega arith
first_length_few (minus n ∷ ts) = let h = first_length_few ts in omega arith
first_length_few (other ∷ ts) = let h = first_length_few ts in omega arith

-- the first list is what stands before the first 0
first_onto : (w : Token) {ls : List (List Token)} → Cons ls → length (first (onto w ls)) ≡ suc (length (first ls))
unfolding onto
first_onto w c = rw c.is

pub first_length_is : (p : Bool) (ts : List Token) → whole_lists p ts ≡ true → first_length ts ≡ length (first (lists ts))
unfolding whole_lists first_length pieces ended_lists split
first_length_is p [] h = refl
first_length_is p (opener q ∷ ts) h = absurd (false≢true h)
first_length_is p (plain zero ∷ ts) h = sym (ap (λ ls. length (first ls)) (lists_end ts))
first_length_is p (plain (suc n) ∷ ts) h =
    ap suc (first_length_is true ts h) ∙ sym (ap (λ ls. length (first ls)) (lists_more (plain (suc n)) ts (eqb-suc-zero n)) ∙ first_onto (plain (suc n)) (some_list ts h))
first_length_is p (minus n ∷ ts) h =
    ap suc (first_length_is true ts h) ∙ sym (ap (λ ls. length (first ls)) (lists_more (minus n) ts refl) ∙ first_onto (minus n) (some_list ts h))
first_length_is p (other ∷ ts) h = absurd (false≢true h)

-- the rows that are left, where a clause begins or within one
unfoldable pub rest_rows : Bool → List (List Token) → List Row
rest_rows true ls = forest_rows (clause_trees ls)
rest_rows false [] = []
rest_rows false (l ∷ ls) = forest_rows (literals l) ++ forest_rows (clause_trees ls)

abbrev said_row : Token → Row
said_row w = row (literal_kind (is_plain w)) (absolute w)

-- what a word adds
ends_fresh : (us : List Token) → rest_rows true (lists (plain 0 ∷ us)) ≡ row 6 0 ∷ rest_rows true (lists us)
unfolding rest_rows clause_trees literals forest_rows tree_rows count
ends_fresh us = ap (λ ls. forest_rows (clause_trees ls)) (lists_end us)

ends-within : (us : List Token) → rest_rows false (lists (plain 0 ∷ us)) ≡ rest_rows true (lists us)
unfolding rest_rows literals forest_rows
ends-within us = ap (rest_rows false) (lists_end us)

onto_within : (w : Token) {ls : List (List Token)} → Cons ls → rest_rows false (onto w ls) ≡ said_row w ∷ rest_rows false ls
unfolding rest_rows onto literals forest_rows tree_rows
onto_within w c = rw c.is

onto_fresh : (w : Token) {ls : List (List Token)} → Cons ls
    → rest_rows true (onto w ls) ≡ row 6 (suc (length (first ls))) ∷ said_row w ∷ rest_rows false ls
unfolding rest_rows onto clause_trees literals forest_rows tree_rows count
onto_fresh w c = rw (c.is, count-literals)

module _ (w : Token) (us : List Token) (e : is_end w ≡ false) (h : whole_lists true us ≡ true) where
  literal-within : rest_rows false (lists (w ∷ us)) ≡ said_row w ∷ rest_rows false (lists us)
  literal-within = ap (rest_rows false) (lists_more w us e) ∙ onto_within w (some_list us h)

  literal_fresh : rest_rows true (lists (w ∷ us)) ≡ row 6 (suc (first_length us)) ∷ said_row w ∷ rest_rows false (lists us)
  literal_fresh =
      ap (rest_rows true) (lists_more w us e) ∙ onto_fresh w (some_list us h) ∙
      ap (λ n. row 6 (suc n) ∷ said_row w ∷ rest_rows false (lists us)) (sym (first_length_is true us h))

-- what a word of clauses is

data Sort (ts us : List Token) (t : code.Token) : Type 0 where
  nothing : t.class ≡ 0 → ts ≡ [] → us ≡ [] → Sort ts us t
  ends : t.class ≡ 6 → ts ≡ plain 0 ∷ us → Sort ts us t
  literal_word : (w : Token) → 7 ≤ t.class → ts ≡ w ∷ us → is_end w ≡ false → whole_lists true us ≡ true → first_length (w ∷ us) ≡ suc (first_length us)
      → kind (literal_said t) ≡ literal_kind (is_plain w) → variable_said t ≡ absolute w → absolute w ≤ 1024 → Sort ts us t

sort_word : (o : Bool) (t : code.Token) (us : List Token) {w : Token} {m : ℕ} → View t.class w m → (6 ≤ t.class → Capped largest m t.magnitude)
    → whole_lists o (w ∷ us) ≡ true → up_to 1024 w ≡ true → Sort (w ∷ us) us t
unfolding whole_lists first_length
sort_word o t us {w} {m} v c h u = go v refl c h u
  where
    values : {k n : ℕ} {x : Token} → View k x n → t.class ≡ k → 7 ≤ k → (6 ≤ k → Capped largest n t.magnitude) → is_end x ≡ false → whole_lists true us ≡ true
        → first_length (x ∷ us) ≡ suc (first_length us) → up_to 1024 x ≡ true → Sort (x ∷ us) us t
    values {k} {n} {x} v e l c f h g u =
        literal_word x (omega (arith, e)) refl f h g
        (ap (λ j. kind (literal (eqb j 8) t.magnitude)) e ∙ literal_kind_is v (omega arith) t.magnitude (c (omega arith)))
        (ap (λ j. variable (literal (eqb j 8) t.magnitude)) e ∙
        near_same (variable (literal (eqb k 8) t.magnitude)) (absolute x) (leb-true (absolute x) 1024 u) (near v (omega arith) t.magnitude (c (omega arith))))
        (leb-true (absolute x) 1024 u)

    go : {k n : ℕ} {x : Token} → View k x n → t.class ≡ k → (6 ≤ k → Capped largest n t.magnitude) → whole_lists o (x ∷ us) ≡ true → up_to 1024 x ≡ true
        → Sort (x ∷ us) us t
    go view_other e c h u = absurd (false≢true h)
    go view_exists e c h u = absurd (false≢true h)
    go view_for_all e c h u = absurd (false≢true h)
    go view_p e c h u = absurd (false≢true h)
    go view_cnf e c h u = absurd (false≢true h)
    go view_zero e c h u = ends e refl
    go (view_plain {n = n}) e c h u = values (view_plain {n = n}) e (omega arith) c (eqb-suc-zero n) h refl u
    go (view_minus {n = n}) e c h u = values (view_minus {n = n}) e (omega arith) c refl h refl u

sort : {b : Bytes} {at : ℕ} {t : code.Token} (o : Bool) → Next b at t → whole_lists o (tokens_at b at) ≡ true → all (up_to 1024) (tokens_at b at) ≡ true
    → Sort (tokens_at b at) (tokens_at b t.to) t
unfolding all
sort o (none k p q) h u = nothing k p q
sort {b} {at} {t} o (word {w = w} v c p) h u =
    subst (λ ts. Sort ts (tokens_at b t.to) t) (sym p)
    (sort_word o t (tokens_at b t.to) v c (sym (ap (whole_lists o) p) ∙ h)
    (and_parts (up_to 1024 w) (all (up_to 1024) (tokens_at b t.to)) (sym (ap (all (up_to 1024)) p) ∙ u)).0)

-- write_clauses: the rows written and those of the words left make up all

pub record ClausesWritten (b : Bytes) (from r₀ : ℕ) (rs₀ rs : List Row) (p : ListPlace) : Type 0 where
  pub inside : p.at ≤ length b
  pub whole_so : whole_lists (not p.fresh) (tokens_at b p.at) ≡ true
  pub below_so : all (up_to 1024) (tokens_at b p.at) ≡ true
  pub fewer : length (tokens_at b p.at) ≤ length (tokens_at b from)
  pub done : List Row
  pub parts : clause_rows (tokens_at b from) ≡ done ++ rest_rows p.fresh (lists (tokens_at b p.at))
  pub put : Put rs₀ r₀ done rs p.row

pub clauses_written_none : {b : Bytes} {from : ℕ} {s : Layout} {len r : ℕ} (rs₀ : List Row) → Writable b from s len r → r ≤ length rs₀
    → ClausesWritten b from r rs₀ rs₀ (record { at = from; row = r; fresh = true })
unfolding rest_rows
clauses_written_none {b} {from} {s} {len} {r} rs₀ w l =
    record {
      inside = w.inside;
      whole_so = w.whole;
      below_so = w.below;
      fewer = omega arith;
      done = [];
      parts = refl;
      put = put-none rs₀ r l;
    }

module _ {b : Bytes} {from r₀ : ℕ} {rs₀ rs : List Row} {p : ListPlace} (whole : whole_lists false (tokens_at b from) ≡ true)
    (room : r₀ + length (tokens_at b from) ≤ length rs₀) (h : ClausesWritten b from r₀ rs₀ rs p) {t : code.Token} (reads : Reads b p.at t) where
  abbrev us : List Token
  us = tokens_at b t.to

  abbrev rows_all_are : List Row → Type 0
  rows_all_are l = clause_rows (tokens_at b from) ≡ l

  all_long : length (clause_rows (tokens_at b from)) ≡ length (tokens_at b from)
  all_long = length-forest_rows (clause_trees (lists (tokens_at b from))) ∙ rows-lists false (tokens_at b from) whole

  -- a row that is left has its place
  row_left : {done rs' : List Row} {r : ℕ} (x : Row) (rest : List Row) → Put rs₀ r₀ done rs' r → rows_all_are (done ++ (x ∷ rest)) → r < length rs₀
  row_left {done} {rs'} {r} x rest q e = omega (arith, q.here, all_long, ap length e, length-append done (x ∷ rest), room)

  what : Sort (tokens_at b p.at) us t
  what = sort (not p.fresh) (next reads) h.whole_so h.below_so

  fresh_parts : (f : Bool) {ts : List Token} → p.fresh ≡ f → tokens_at b p.at ≡ ts → rows_all_are (h.done ++ rest_rows f (lists ts))
  fresh_parts f e q = h.parts ∙ ap₂ (λ g ts. h.done ++ rest_rows g (lists ts)) e q

  -- the OR row, where a clause begins
  abbrev or-row : Row
  or-row = row 6 (first_length (tokens_at b p.at))

  or-ends : tokens_at b p.at ≡ plain 0 ∷ us → p.fresh ≡ true → rows_all_are (h.done ++ (or-row ∷ rest_rows true (lists us)))
  unfolding first_length
  or-ends q f =
      fresh_parts true f q ∙ ap (λ l. h.done ++ l) (ends_fresh us) ∙
      ap (λ n. h.done ++ (row 6 n ∷ rest_rows true (lists us))) (sym (ap first_length q))

  or-literal : (w : Token) → tokens_at b p.at ≡ w ∷ us → is_end w ≡ false → whole_lists true us ≡ true → first_length (w ∷ us) ≡ suc (first_length us) → p.fresh ≡ true
      → rows_all_are (h.done ++ (or-row ∷ said_row w ∷ rest_rows false (lists us)))
  or-literal w q e v g f =
      fresh_parts true f q ∙ ap (λ l. h.done ++ l) (literal_fresh w us e v) ∙
      ap (λ n. h.done ++ (row 6 n ∷ said_row w ∷ rest_rows false (lists us))) (sym (ap first_length q ∙ g))

  pub clause_row_there : begins p t.class ≡ true → p.row < length rs₀
  clause_row_there e = go what
    where
      parts : (p.fresh ≡ true) × (not (eqb t.class 0) ≡ true)
      parts = and_parts p.fresh (not (eqb t.class 0)) e

      go : Sort (tokens_at b p.at) us t → p.row < length rs₀
      go (nothing k q r) = absurd (false≢true (sym (ap (λ j. not (eqb j 0)) k) ∙ parts.1))
      go (ends k q) = row_left or-row (rest_rows true (lists us)) h.put (or-ends q parts.0)
      go (literal_word w l q e v g k n a) = row_left or-row (said_row w ∷ rest_rows false (lists us)) h.put (or-literal w q e v g parts.0)

  -- what is left once the OR row is written
  data Opened (rs₁ : List Row) (r₁ : ℕ) : Type 0 where
    no_word : t.class ≡ 0 → tokens_at b p.at ≡ us → rs₁ ≡ rs → r₁ ≡ p.row → Opened rs₁ r₁
    end_word : t.class ≡ 6 → whole_lists false us ≡ true → (done : List Row) → Put rs₀ r₀ done rs₁ r₁ → rows_all_are (done ++ rest_rows true (lists us)) → Opened rs₁ r₁
    literal_left : (w : Token) → 7 ≤ t.class → whole_lists true us ≡ true → (done : List Row) → Put rs₀ r₀ done rs₁ r₁
        → rows_all_are (done ++ (said_row w ∷ rest_rows false (lists us))) → kind (literal_said t) ≡ literal_kind (is_plain w)
        → variable_said t ≡ absolute w → absolute w ≤ 1024 → Opened rs₁ r₁

  module _ {rs₁ : List Row} {p₁ : ListPlace} (opens : p₁ ≡ open_place p t.class) (writes : rs₁ ≡ open_rows b p t.class rs) where
    rows_open : (f : Bool) → begins p t.class ≡ f → rs₁ ≡ cond f (set rs p.row or-row) rs
    rows_open f e = writes ∙ ap (λ c. cond c (set rs p.row or-row) rs) e

    place_open : (f : Bool) → begins p t.class ≡ f → p₁ ≡ cond f (record { at = p.at; row = p.row + 1; fresh = p.fresh }) p
    place_open f e = opens ∙ ap (λ c. cond c (record { at = p.at; row = p.row + 1; fresh = p.fresh }) p) e

    begins_word : (f : Bool) → p.fresh ≡ f → eqb t.class 0 ≡ false → begins p t.class ≡ f
    begins_word f e k = ap₂ (λ g c. g && not c) e k ∙ and_true f
      where
        and_true : (g : Bool) → (g && true) ≡ g
        and_true true = refl
        and_true false = refl

    begins_none : t.class ≡ 0 → begins p t.class ≡ false
    begins_none k = ap (λ j. p.fresh && not (eqb j 0)) k ∙ and-false p.fresh

    with_or : begins p t.class ≡ true → (rest : List Row) → rows_all_are (h.done ++ (or-row ∷ rest))
        → Put rs₀ r₀ (h.done ++ (or-row ∷ [])) rs₁ p₁.row × rows_all_are ((h.done ++ (or-row ∷ [])) ++ rest)
    with_or e rest q = (
      subst (Put rs₀ r₀ (h.done ++ (or-row ∷ [])) rs₁) (sym (ap (λ (z : ListPlace). z.row) (place_open true e)))
          (put-row or-row h.put (row_left or-row rest h.put q) (rows_open true e)),
      q ∙ sym (append_assoc h.done (or-row ∷ []) rest),
    )

    without_or : begins p t.class ≡ false → Put rs₀ r₀ h.done rs₁ p₁.row
    without_or e =
        subst (Put rs₀ r₀ h.done rs₁) (sym (ap (λ (z : ListPlace). z.row) (place_open false e)))
        (subst (λ l. Put rs₀ r₀ h.done l p.row) (sym (rows_open false e)) h.put)

    ended : (f : Bool) → p.fresh ≡ f → t.class ≡ 6 → tokens_at b p.at ≡ plain 0 ∷ us → Opened rs₁ p₁.row
    unfolding whole_lists
    ended true e k q =
        let w = with_or (begins_word true e (ap (λ j. eqb j 0) k)) (rest_rows true (lists us)) (or-ends q e) in
        end_word k (sym (ap (whole_lists (not p.fresh)) q) ∙ h.whole_so) (h.done ++ (or-row ∷ [])) w.0 w.1
    ended false e k q =
        end_word k (sym (ap (whole_lists (not p.fresh)) q) ∙ h.whole_so) h.done (without_or (begins_word false e (ap (λ j. eqb j 0) k)))
        (fresh_parts false e q ∙ ap (λ l. h.done ++ l) (ends-within us))

    opened : Opened rs₁ p₁.row
    opened = go what
      where
        lit : (f : Bool) → p.fresh ≡ f → Sort (tokens_at b p.at) us t → Opened rs₁ p₁.row
        lit f e (nothing k q r) =
            no_word k (q ∙ sym r) (rows_open false (begins_none k)) (ap (λ (z : ListPlace). z.row) (place_open false (begins_none k)))
        lit f e (ends k q) = ended f e k q
        lit true e (literal_word w l q i v g k n a) =
            let o = with_or (begins_word true e (ne_eqb t.class 0 (λ z. absurd (omega (arith, l, z))))) (said_row w ∷ rest_rows false (lists us)) (or-literal w q i v g e) in
            literal_left w l v (h.done ++ (or-row ∷ [])) o.0 o.1 k n a
        lit false e (literal_word w l q i v g k n a) =
            literal_left w l v h.done (without_or (begins_word false e (ne_eqb t.class 0 (λ z. absurd (omega (arith, l, z))))))
            (fresh_parts false e q ∙ ap (λ l. h.done ++ l) (literal-within w us i v)) k n a

        go : Sort (tokens_at b p.at) us t → Opened rs₁ p₁.row
        go s = lit p.fresh refl s

    same_fresh : p₁.fresh ≡ p.fresh
    same_fresh = ap (λ (z : ListPlace). z.fresh) opens ∙ by (begins p t.class)
      where
        by : (c : Bool) → (cond c (record { at = p.at; row = p.row + 1; fresh = p.fresh }) p).fresh ≡ p.fresh
        by true = refl
        by false = refl

    pub literal_row_there : 7 ≤ t.class → (p₁.row < length rs₀) × (variable_said t ≤ 1024)
    literal_row_there l = go opened
      where
        go : Opened rs₁ p₁.row → (p₁.row < length rs₀) × (variable_said t ≤ 1024)
        go (no_word k q e f) = absurd (omega (arith, k))
        go (end_word k v d q e) = absurd (omega (arith, k))
        go (literal_left w l v d q e k n a) = (row_left (said_row w) (rest_rows false (lists us)) q e, omega (arith, n, a))

    pub row_inside : p₁.row ≤ length rs₀
    row_inside = go opened
      where
        go : Opened rs₁ p₁.row → p₁.row ≤ length rs₀
        go (no_word k q e f) = omega (arith, f, h.put.inside)
        go (end_word k v d q e) = q.inside
        go (literal_left w l v d q e k n a) = q.inside

    below_next : all (up_to 1024) us ≡ true
    unfolding all
    below_next = go (next reads)
      where
        go : Next b p.at t → all (up_to 1024) us ≡ true
        go (none k q r) = ap (all (up_to 1024)) r
        go (word {w = w} v c q) = (and_parts (up_to 1024 w) (all (up_to 1024) us) (sym (ap (all (up_to 1024)) q) ∙ h.below_so)).1

    fewer_next : length us ≤ length (tokens_at b from)
    fewer_next = go (next reads)
      where
        go : Next b p.at t → length us ≤ length (tokens_at b from)
        go (none k q r) = omega (arith, ap length r)
        go (word v c q) = omega (arith, ap length q, h.fewer)

    pub clauses_written_more : {rs₂ : List Row} {p₂ : ListPlace} → p₂ ≡ word_place t p₁ → rs₂ ≡ word_rows t p₁ rs₁ → ClausesWritten b from r₀ rs₀ rs₂ p₂
    clauses_written_more {rs₂} {p₂} e f = go opened
      where
        made : (fresh : Bool) (r : ℕ) → p₂ ≡ record { at = t.to; row = r; fresh = fresh } → whole_lists (not fresh) us ≡ true → (done : List Row)
            → rows_all_are (done ++ rest_rows fresh (lists us)) → Put rs₀ r₀ done rs₂ r → ClausesWritten b from r₀ rs₀ rs₂ p₂
        made fresh r q v done parts put =
            subst (ClausesWritten b from r₀ rs₀ rs₂) (sym q)
            (record { inside = reads.inside; whole_so = v; below_so = below_next; fewer = fewer_next; done = done; parts = parts; put = put })

        go : Opened rs₁ p₁.row → ClausesWritten b from r₀ rs₀ rs₂ p₂
        go (no_word k q i j) =
            made p.fresh p.row
            (e ∙ as_none ∙ ap₂ (λ (n : ℕ) (c : Bool). record { at = t.to; row = n; fresh = c }) j same_fresh)
            (subst (λ ts. whole_lists (not p.fresh) ts ≡ true) q h.whole_so) h.done (h.parts ∙ ap (λ ts. h.done ++ rest_rows p.fresh (lists ts)) q)
            (subst (λ l. Put rs₀ r₀ h.done l p.row) (sym (f ∙ none_rows ∙ i)) h.put)
          where
            as_none : word_place t p₁ ≡ record { at = t.to; row = p₁.row; fresh = p₁.fresh }
            as_none = rw k

            none_rows : word_rows t p₁ rs₁ ≡ rs₁
            none_rows = rw k
        go (end_word k v d q i) =
            made true p₁.row (e ∙ rw k) v d i (subst (λ l. Put rs₀ r₀ d l p₁.row) (sym (f ∙ rw k)) q)
        go (literal_left w l v d q i k n a) =
            made false (p₁.row + 1) (e ∙ place) v (d ++ (said_row w ∷ [])) (i ∙ sym (append_assoc d (said_row w ∷ []) (rest_rows false (lists us))))
            (put-row (said_row w) q (row_left (said_row w) (rest_rows false (lists us)) q i)
            (f ∙ written ∙ ap₂ (λ a c. set rs₁ p₁.row (row a c)) k n))
          where
            not_zero : eqb t.class 6 ≡ false
            not_zero = ne_eqb t.class 6 (λ z. absurd (omega (arith, l, z)))

            not_less : ltb t.class 6 ≡ false
            not_less = le-ltb t.class 6 (omega (arith, l))

            place : word_place t p₁ ≡ record { at = t.to; row = p₁.row + 1; fresh = false }
            place = rw (not_zero, not_less)

            written : word_rows t p₁ rs₁ ≡ set rs₁ p₁.row (literal_row (literal_said t))
            written = rw (not_zero, not_less)

pub clauses_written_all : {b : Bytes} {from r₀ : ℕ} {rs₀ rs : List Row} {p : ListPlace} → ClausesWritten b from r₀ rs₀ rs p → length b ≤ p.at
    → rs ≡ spliced rs₀ r₀ (clause_rows (tokens_at b from))
unfolding pieces ended_lists split rest_rows clause_trees forest_rows
clauses_written_all {b} {from} {r₀} {rs₀} {rs} {p} h l =
    put_all h.put ∙
    ap (spliced rs₀ r₀)
    (sym (h.parts ∙ ap (λ ts. h.done ++ rest_rows p.fresh (lists ts)) (no_tokens b p.at l) ∙ ap (λ r. h.done ++ r) (nothing_left p.fresh) ∙ append-nil h.done))
  where
    nothing_left : (f : Bool) → rest_rows f [] ≡ []
    nothing_left true = refl
    nothing_left false = refl

pub word_place_at : {p : ListPlace} (t : code.Token) (p₁ : ListPlace) → p ≡ word_place t p₁ → p.at ≡ t.to
word_place_at t p₁ e = ap (λ (q : ListPlace). q.at) e ∙ by (eqb t.class 6) (ltb t.class 6)
  where
    by : (c d : Bool)
        → (cond {A = ListPlace} c (record { at = t.to; row = p₁.row; fresh = true })
        (cond d (record { at = t.to; row = p₁.row; fresh = p₁.fresh }) (record { at = t.to; row = p₁.row + 1; fresh = false }))).at ≡ t.to
    by true d = refl
    by false true = refl
    by false false = refl
