-- write_free and write_bound: a row a turn.
-- Assumes nothing.
use mathlib.Core.Path.{◌≡◌, refl, sym, ap, ap₂, ◌∙◌, subst}
use mathlib.Core.Bool.{Bool, true, false, cond, false≢true}
use mathlib.Core.List.{List, [], ◌∷◌, ◌++◌, map, map-append, append_assoc, append-nil}
use Prim.Native.Nat.{ℕ, zero, suc, ◌+◌, ◌-◌, ◌≤◌, ◌<◌}
use native.Mathlib.Numerals.{add-one}
use native.Mathlib.Omega.{arith}
use lib.Dec.{eqb}
use lib.ListN.{length, get_or, set, length-append, length-map}
use borrow.Author.Tests.{eqb-true, eq-eqb, ne_eqb}
use Rattle.formula.specs.Tree.{and, or, exists, Quantifier, Binding, Prefix}
use Rattle.formula.proofs.Booleans.{and_parts}
use Rattle.sheet.specs.Format.{Bytes, Row, row}
use Rattle.sheet.specs.Sheet.{binding_row}
use Rattle.words.specs.Tokens.{Reads}
use Rattle.words.specs.declared.token.Token as code
use Rattle.qdimacs.specs.Inner.Lists.{between, within, ordered, bound_from}
use Rattle.qdimacs.specs.Inner.Cursor.{tokens_at, state_code, step}
use Rattle.qdimacs.specs.Inner.Marks.{Listed, bindings_in, frees}
use Rattle.qdimacs.specs.Inner.Rows.{spliced}
use Rattle.qdimacs.proofs.Next.{next, Led, begins, breaks, goes, binds, led}
use Rattle.qdimacs.proofs.Cutting.{no_tokens, small_code}
use Rattle.qdimacs.proofs.Binding.{Walked, walked_number, walked_below, same_capped}
use Rattle.qdimacs.proofs.Putting.{Put, put-none, put-row, put_all}

-- write_free

frees-grow : (m : List ℕ) (x k : ℕ) → length (frees m x) ≤ length (frees m (k + x))
unfolding frees
frees-grow m x zero = ap-le (ap (λ n. length (frees m n)) (plain x))
  where
    plain : (n : ℕ) → n ≡ 0 + n
    plain n = omega arith

    ap-le : {a b : ℕ} → a ≡ b → a ≤ b
    ap-le e = omega arith
frees-grow m x (suc k) = more (frees-grow m x k) (ap (λ n. length (frees m n)) (next_one k x))
  where
    next_one : (k x : ℕ) → suc k + x ≡ suc (k + x)
    next_one k x = omega arith

    more : length (frees m x) ≤ length (frees m (k + x)) → length (frees m (suc k + x)) ≡ length (frees m (suc (k + x))) → length (frees m x) ≤ length (frees m (suc k + x))
    more h e = omega (arith, length-append (frees m (k + x)) (cond (eqb (get_or m (suc (k + x)) 0) 2) (record { quantifier = exists; variable = suc (k + x) } ∷ []) []))

frees-last : (m : List ℕ) (x : ℕ) → get_or m (suc x) 0 ≡ 2 → length (frees m (suc x)) ≡ suc (length (frees m x))
unfolding frees
frees-last m x e =
    ap (λ b. length (frees m x ++ cond b (record { quantifier = exists; variable = suc x } ∷ []) [])) (eq-eqb (get_or m (suc x) 0) 2 e) ∙
    length-append (frees m x) (record { quantifier = exists; variable = suc x } ∷ []) ∙ one (length (frees m x))
  where
    one : (n : ℕ) → n + 1 ≡ suc n
    one n = omega arith

frees_few : (m : List ℕ) (x : ℕ) → length (frees m x) ≤ x
unfolding frees
frees_few m zero = omega arith
frees_few m (suc x) = go (eqb (get_or m (suc x) 0) 2) (frees_few m x)
  where
    go : (b : Bool) → length (frees m x) ≤ x → length (frees m x ++ cond b (record { quantifier = exists; variable = suc x } ∷ []) []) ≤ suc x
    go true h = omega (arith, length-append (frees m x) (record { quantifier = exists; variable = suc x } ∷ []))
    go false h = omega (arith, length-append (frees m x) [])

pub record FreeWritten (m : List ℕ) (most : ℕ) (rs₀ rs : List Row) (r x : ℕ) : Type 0 where
  pub within : x ≤ most
  pub put : Put rs₀ 0 (map binding_row (frees m x)) rs r

pub free_written_none : (m : List ℕ) (most : ℕ) (rs₀ : List Row) → FreeWritten m most rs₀ rs₀ 0 0
unfolding frees
free_written_none m most rs₀ = record { within = omega arith; put = put-none rs₀ 0 (omega arith) }

module _ {m : List ℕ} {most : ℕ} {rs₀ rs : List Row} {r x : ℕ} (h : FreeWritten m most rs₀ rs r x) where
  count_is : r ≡ length (frees m x)
  count_is = omega (arith, h.put.here, length-map (frees m x) binding_row)

  pub few_rows : r ≤ x
  few_rows = omega (arith, count_is, frees_few m x)

  pub free-row_there : x < most → get_or m (x + 1) 0 ≡ 2 → r < length (frees m most)
  free-row_there l e =
      let last = frees-last m x (ap (λ n. get_or m n 0) (sym (add-one x)) ∙ e) in
      let grown = frees-grow m (suc x) (most - suc x) in
      omega (arith, count_is, last, grown, ap (λ n. length (frees m n)) (sum l))
    where
      sum : x < most → (most - suc x) + suc x ≡ most
      sum l = omega arith

  pub free_written_more : {new : List Row} {r' : ℕ} → x < most → length (frees m most) ≤ length rs₀
      → new ≡ cond (eqb (get_or m (x + 1) 0) 2) (set rs r (row 1 (x + 1))) rs → r' ≡ cond (eqb (get_or m (x + 1) 0) 2) (r + 1) r
      → FreeWritten m most rs₀ new r' (x + 1)
  unfolding frees binding_row
  free_written_more {new} {r'} l room e f = record { within = omega arith; put = go (eqb (get_or m (x + 1) 0) 2) refl e f }
    where
      rows_are : (b : Bool) → eqb (get_or m (x + 1) 0) 2 ≡ b
          → map binding_row (frees m x) ++ map binding_row (cond b (record { quantifier = exists; variable = suc x } ∷ []) []) ≡ map binding_row (frees m (x + 1))
      rows_are b q =
          sym
          (ap (λ n. map binding_row (frees m n)) (add-one x) ∙
          ap (λ c. map binding_row (frees m x ++ cond c (record { quantifier = exists; variable = suc x } ∷ []) [])) (ap (λ n. eqb (get_or m n 0) 2) (sym (add-one x)) ∙ q) ∙
          map-append binding_row (frees m x) (cond b (record { quantifier = exists; variable = suc x } ∷ []) []))

      go : (b : Bool) → eqb (get_or m (x + 1) 0) 2 ≡ b → new ≡ cond b (set rs r (row 1 (x + 1))) rs → r' ≡ cond b (r + 1) r
          → Put rs₀ 0 (map binding_row (frees m (x + 1))) new r'
      go true q e f =
          subst (λ d. Put rs₀ 0 d new r') (ap (λ n. map binding_row (frees m x) ++ (row 1 n ∷ [])) (add-one x) ∙ rows_are true q)
          (subst (Put rs₀ 0 (map binding_row (frees m x) ++ (row 1 (x + 1) ∷ [])) new) (sym f)
          (put-row (row 1 (x + 1)) h.put (omega (arith, free-row_there l (eqb-true (get_or m (x + 1) 0) 2 q))) e))
      go false q e f =
          subst (λ d. Put rs₀ 0 d new r') (sym (append-nil (map binding_row (frees m x))) ∙ rows_are false q)
          (subst (Put rs₀ 0 (map binding_row (frees m x)) new) (sym f) (subst (λ n. Put rs₀ 0 (map binding_row (frees m x)) n r) (sym e) h.put))

  -- the same of x, which is one behind the numbers so far
  module _ (y : ℕ) (e : x + 1 ≡ y) where
    pub free-row_at : y ≤ most → get_or m y 0 ≡ 2 → r < length (frees m most)
    free-row_at l f = free-row_there (omega (arith, e)) (ap (λ n. get_or m n 0) e ∙ f)

    pub free_written_next : {new : List Row} {r' : ℕ} (z : ℕ) → z ≡ y → y ≤ most → length (frees m most) ≤ length rs₀
        → new ≡ cond (eqb (get_or m y 0) 2) (set rs r (row 1 y)) rs → r' ≡ cond (eqb (get_or m y 0) 2) (r + 1) r
        → FreeWritten m most rs₀ new r' z
    free_written_next {new} {r'} z f l room n k =
        subst (FreeWritten m most rs₀ new r') (e ∙ sym f)
        (free_written_more (omega (arith, e)) room (n ∙ ap (λ i. cond (eqb (get_or m i 0) 2) (set rs r (row 1 i)) rs) (sym e))
        (k ∙ ap (λ i. cond (eqb (get_or m i 0) 2) (r + 1) r) (sym e)))

pub free_written_all : {m : List ℕ} {most : ℕ} {rs₀ rs : List Row} {r x : ℕ} → FreeWritten m most rs₀ rs r x → most ≤ x
    → (rs ≡ spliced rs₀ 0 (map binding_row (frees m most))) × (r ≡ length (frees m most))
free_written_all {m} {most} {rs₀} {rs} {r} {x} h l =
    let e = same h.within l in
    (subst (λ n. rs ≡ spliced rs₀ 0 (map binding_row (frees m n))) e (put_all h.put), count_is h ∙ ap (λ n. length (frees m n)) e)
  where
    same : x ≤ most → most ≤ x → x ≡ most
    same p q = omega arith

-- write_bound

pub record BoundWritten (b : Bytes) (from : ℕ) (rs₀ rs : List Row) (r st at : ℕ) : Type 0 where
  pub walked : Walked b st at
  pub done : Prefix
  pub parts : bindings_in b ≡ done ++ bound_from walked.state (tokens_at b at)
  pub put : Put rs₀ from (map binding_row done) rs r

pub bound_written_none : {b : Bytes} {from : ℕ} {rs₀ : List Row} → Listed b → from ≤ length rs₀ → BoundWritten b from rs₀ rs₀ from 0 0
bound_written_none {b} {from} {rs₀} h l =
    record {
      walked = record { state = between; code_is = refl; inside = omega arith; ordered_so = (and_parts (ordered between (tokens_at b 0)) _ h.well).0; below_so = h.below };
      done = [];
      parts = refl;
      put = put-none rs₀ from l;
    }

finished : (b : Bytes) {from : ℕ} {rs₀ rs : List Row} {r : ℕ} (done rest : Prefix) → bindings_in b ≡ done ++ rest → rest ≡ [] → Put rs₀ from (map binding_row done) rs r
    → (rs ≡ spliced rs₀ from (map binding_row (bindings_in b))) × (r ≡ from + length (bindings_in b))
finished b {from} {rs₀} {rs} {r} done rest p e put =
    let same = p ∙ ap (λ l. done ++ l) e ∙ append-nil done in (
      put_all put ∙ ap (λ d. spliced rs₀ from (map binding_row d)) (sym same),
      put.here ∙ ap (λ n. from + n) (length-map done binding_row ∙ ap length (sym same)),
    )

module _ {b : Bytes} {from : ℕ} {rs₀ rs : List Row} {r st at : ℕ} (h : BoundWritten b from rs₀ rs r st at) {t : code.Token} (reads : Reads b at t)
    {n : ℕ} (steps : n ≡ step st t.class) where
  here : Led h.walked.state (tokens_at b at) (tokens_at b t.to) n t.class t.magnitude
  here =
      subst (λ k. Led h.walked.state (tokens_at b at) (tokens_at b t.to) k t.class t.magnitude)
      (sym (steps ∙ ap (λ s. step s t.class) h.walked.code_is)) (led h.walked.state (next reads))

  pub bound_written_ends : 3 ≤ n → (rs ≡ spliced rs₀ from (map binding_row (bindings_in b))) × (r ≡ from + length (bindings_in b))
  bound_written_ends l = go here
    where
      go : Led h.walked.state (tokens_at b at) (tokens_at b t.to) n t.class t.magnitude
          → (rs ≡ spliced rs₀ from (map binding_row (bindings_in b))) × (r ≡ from + length (bindings_in b))
      go (begins e o c g) = finished b h.done (bound_from h.walked.state (tokens_at b at)) h.parts g h.put
      go (breaks e o) = absurd (false≢true (sym o ∙ h.walked.ordered_so))
      go (goes s' e k o c g) = absurd (omega (arith, e, small_code s'))
      go (binds q i e k v o c g) = absurd (omega (arith, e, small_code h.walked.state))

  done_few : (rest : Prefix) → bindings_in b ≡ h.done ++ rest → r + length rest ≡ from + length (bindings_in b)
  done_few rest e = omega (arith, h.put.here, length-map h.done binding_row, ap length e, length-append h.done rest)

  pub bound-row_there : n < 3 → t.class ≡ 7 → r < from + length (bindings_in b)
  bound-row_there l k = go here
    where
      go : Led h.walked.state (tokens_at b at) (tokens_at b t.to) n t.class t.magnitude → r < from + length (bindings_in b)
      go (begins e o c g) = absurd (omega (arith, e))
      go (breaks e o) = absurd (omega (arith, e))
      go (goes s' e m o c g) = absurd (m k)
      go (binds q i e m v o c g) = omega (arith, done_few _ (h.parts ∙ ap (λ l. h.done ++ l) g))

  pub bound_written_more : {new : List Row} {r' : ℕ} → n < 3 → from + length (bindings_in b) ≤ length rs₀
      → new ≡ cond (eqb t.class 7) (set rs r (row st t.magnitude)) rs → r' ≡ cond (eqb t.class 7) (r + 1) r
      → BoundWritten b from rs₀ new r' n t.to
  unfolding binding_row
  bound_written_more {new} {r'} l room e f = go here
    where
      kind_is : (q : Quantifier) → h.walked.state ≡ within q → st ≡ (binding_row (record { quantifier = q; variable = 0 })).kind
      kind_is q i = h.walked.code_is ∙ ap state_code i ∙ code q
        where
          code : (q : Quantifier) → state_code (within q) ≡ (binding_row (record { quantifier = q; variable = 0 })).kind
          code and = refl
          code or = refl

      go : Led h.walked.state (tokens_at b at) (tokens_at b t.to) n t.class t.magnitude → BoundWritten b from rs₀ new r' n t.to
      go (begins e o c g) = absurd (omega (arith, e))
      go (breaks e o) = absurd (omega (arith, e))
      go (goes s' i k o c g) =
          record {
            walked = record { state = s'; code_is = i; inside = reads.inside; ordered_so = sym o ∙ h.walked.ordered_so; below_so = walked_below h.walked reads };
            done = h.done;
            parts = h.parts ∙ ap (λ l. h.done ++ l) g;
            put =
                rw (e, f, ne_eqb t.class 7 k) h.put;
          }
      go (binds q {n = x} i m k v o c g) =
          let same = same_capped (suc x) t.magnitude (walked_number h.walked reads k) v in
          let z : Binding = record { quantifier = q; variable = suc x } in
          record {
            walked = record { state = h.walked.state; code_is = m; inside = reads.inside; ordered_so = sym o ∙ h.walked.ordered_so; below_so = walked_below h.walked reads };
            done = h.done ++ (z ∷ []);
            parts = h.parts ∙ ap (λ l. h.done ++ l) g ∙ sym (append_assoc h.done (z ∷ []) (bound_from h.walked.state (tokens_at b t.to)));
            put =
                subst (λ d. Put rs₀ from d new r') (sym (map-append binding_row h.done (z ∷ [])))
                (subst (Put rs₀ from (map binding_row h.done ++ (binding_row z ∷ [])) new)
                (sym (f ∙ ap (λ b. cond b (r + 1) r) (eq-eqb t.class 7 k)))
                (put-row (binding_row z) h.put (omega (arith, bound-row_there l k))
                (e ∙ ap (λ b. cond b (set rs r (row st t.magnitude)) rs) (eq-eqb t.class 7 k) ∙ ap₂ (λ a b. set rs r (row a b)) (kind_is q i) same)));
          }

pub bound_written_all : {b : Bytes} {from : ℕ} {rs₀ rs : List Row} {r st at : ℕ} → BoundWritten b from rs₀ rs r st at → length b ≤ at
    → (rs ≡ spliced rs₀ from (map binding_row (bindings_in b))) × (r ≡ from + length (bindings_in b))
unfolding bound_from
bound_written_all {b} {from} {rs₀} {rs} {r} {st} {at} h l =
    finished b h.done (bound_from h.walked.state (tokens_at b at)) h.parts (ap (bound_from h.walked.state) (no_tokens b at l)) h.put
