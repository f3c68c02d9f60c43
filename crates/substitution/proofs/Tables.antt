-- Tables of changes: the one that changes nothing, and the ones that put a value in for one variable.
-- Assumes nothing.
use mathlib.Core.Path.{◌≡◌, refl, sym, ap, ap₂, ◌∙◌, fun_ext}
use mathlib.Core.Bool.{Bool, true, false, not, cond, beq}
use mathlib.Core.List.{List, [], ◌∷◌, ◌++◌, append-nil}
use Prim.Native.Nat.{ℕ, zero, suc, ◌+◌, ◌-◌, ◌≤◌, ◌<◌}
use native.Mathlib.Numerals.{add-one}
use native.Mathlib.Omega.{arith}
use lib.Dec.{eqb, leb}
use lib.ListN.{length, get_or, take, drop, set, length-append, length-set, drop_of_length-le, get_or-append}
use lib.Seq.{take_at, drop_at, append_snoc, drop-cons, drop-length, set_at, get_or-append-add, get_or-set_same, get_or-set_other}
use borrow.Author.Tests.{eq-eqb, ne_eqb, eqb-true, eqb-false, leb-true, leb-false}
use Rattle.formula.specs.Tree.{lit, constant, of, assigned}
use Rattle.substitution.specs.Changes.{entry, put_entry, numbers, putting_in, putting, chosen, became, changed}

-- numbers

pub length-numbers : (n : ℕ) → length (numbers n) ≡ n
unfolding numbers
length-numbers zero = refl
length-numbers (suc n) = length-append (numbers n) (n ∷ []) ∙ omega (arith, length-numbers n)

-- the first i entries are their own numbers
pub record Keeping (old new : List ℕ) (i : ℕ) : Type 0 where
  pub within : i ≤ length old
  pub so_far : new ≡ numbers i ++ drop i old
  pub same_length : length new ≡ length old

pub keeping_none : (old : List ℕ) → Keeping old old 0
unfolding numbers
keeping_none old = record { within = omega arith; so_far = refl; same_length = refl }

module _ {old new : List ℕ} {i : ℕ} where
  pub keeping_next : i < length new → Keeping old new i → Keeping old (set new i i) (i + 1)
  unfolding numbers
  keeping_next h n =
      record {
        within = omega (arith, n.same_length);
        so_far =
            ap (λ l. set l i i) (n.so_far ∙ ap (λ l. numbers i ++ l) (drop-cons old i 0 (omega (arith, n.same_length)))) ∙
            set_at (numbers i) (get_or old i 0) (drop (suc i) old) i i (length-numbers i) ∙
            sym (append_snoc (numbers i) i (drop (suc i) old)) ∙ ap (λ k. numbers k ++ drop k old) (sym (add-one i));
        same_length = length-set new i i ∙ n.same_length;
      }

  pub keeping_all : length new ≤ i → Keeping old new i → new ≡ numbers (length old)
  keeping_all h n =
      let last : i ≡ length old = omega (arith, n.within, n.same_length) in
      n.so_far ∙ ap (λ k. numbers k ++ drop k old) last ∙ ap (λ l. numbers (length old) ++ l) (drop-length old) ∙
      append-nil (numbers (length old))

-- every number is its own entry
pub numbers_at : (n v : ℕ) → entry (numbers n) v ≡ v
unfolding numbers
numbers_at zero v = refl
numbers_at (suc n) v = by (leb (suc v) n) refl (numbers_at n v)
  where
    l : List ℕ
    l = numbers n

    last : (k : ℕ) → get_or (n ∷ []) k (length l + k) ≡ length l + k
    last zero = omega (arith, length-numbers n)
    last (suc k) = refl

    by : (m : Bool) → leb (suc v) n ≡ m → get_or l v v ≡ v → get_or (l ++ (n ∷ [])) v v ≡ v
    by true e rest = get_or-append l (n ∷ []) v v (omega (arith, length-numbers n, leb-true (suc v) n e)) ∙ rest
    by false e rest =
        let k = v - n in
        let at : v ≡ length l + k = omega (arith, length-numbers n, leb-false (suc v) n e) in
        ap (λ w. get_or (l ++ (n ∷ [])) w w) at ∙ get_or-append-add l (n ∷ []) k (length l + k) ∙ last k ∙ sym at

-- two tables in one list: the second part lent comes back as q
pub both_parts : (p q rest : List ℕ) (n : ℕ) → length p ≡ n
    → take n (p ++ rest) ++ (q ++ drop (length (p ++ rest) - n) (drop n (p ++ rest))) ≡ p ++ q
both_parts p q rest n e =
    let over : length rest ≤ length (p ++ rest) - n = omega (arith, e, length-append p rest) in
    ap₂ (λ l m. l ++ (q ++ m)) (take_at p rest n e)
    (ap (drop (length (p ++ rest) - n)) (drop_at p rest n e) ∙ drop_of_length-le rest over) ∙
    ap (λ l. p ++ l) (append-nil q)

-- nothing changes

pub none-chosen : (n : ℕ) (s : Bool) (v : ℕ) → chosen (numbers n) s v ≡ false
unfolding chosen
none-chosen n s v = ap (λ e. not (eqb e v)) (numbers_at n v) ∙ ap not (eq-eqb v v refl)

pub numbers_change : (n : ℕ) → changed (numbers n) ≡ lit
unfolding changed
numbers_change n = fun_ext λ s. fun_ext λ v. rw (none-chosen n s v)

-- one variable is put in

pub length-putting : (x : ℕ) (c : Bool) → length (putting x c) ≡ 1025
length-putting x c = length-set (numbers 1025) x (put_entry c) ∙ length-numbers 1025

module _ (n x : ℕ) (inside : x < n) (small : x ≤ 1024) (c : Bool) where
  put_at : entry (putting_in n x c) x ≡ put_entry c
  put_at = get_or-set_same (numbers n) x (put_entry c) x (omega (arith, length-numbers n))

  put_other : (v : ℕ) → (v ≡ x → ⊥) → entry (putting_in n x c) v ≡ v
  put_other v h = get_or-set_other (numbers n) x v (put_entry c) v h ∙ numbers_at n v

  high : (c : Bool) → 1024 < put_entry c
  high true = omega arith
  high false = omega arith

  chosen-put_at : (s : Bool) (v : ℕ) → chosen (putting_in n x c) s v ≡ of x s v
  unfolding chosen
  chosen-put_at s v = by (eqb v x) refl
    where
      by : (m : Bool) → eqb v x ≡ m → not (eqb (entry (putting_in n x c) v) v) ≡ m
      by true e =
          let same = eqb-true v x e in
          ap not
          (ne_eqb (entry (putting_in n x c) v) v (λ f. omega (arith, high c, f, ap (λ w. entry (putting_in n x c) w) same, put_at, same)))
      by false e = ap not (eq-eqb (entry (putting_in n x c) v) v (put_other v (eqb-false v x e)))

  became-put : (s : Bool) → became s (put_entry c) ≡ constant (beq s c)
  unfolding became
  became-put s = by c
    where
      by : (c : Bool) → cond (leb (put_entry c) 1024) (lit s (put_entry c)) (constant (beq s (eqb (put_entry c) 1026))) ≡
          constant (beq s c)
      by true = refl
      by false = refl

  changed-put_at : (s : Bool) (v : ℕ) → changed (putting_in n x c) s v ≡ assigned x c s v
  unfolding changed
  changed-put_at s v = rw (chosen-put_at s v) (by (eqb v x) refl)
    where
      by : (m : Bool) → eqb v x ≡ m
          → cond m (became s (entry (putting_in n x c) v)) (lit s v) ≡ cond m (constant (beq s c)) (lit s v)
      by true e = ap (became s) (ap (entry (putting_in n x c)) (eqb-true v x e) ∙ put_at) ∙ became-put s
      by false e = refl

  -- the literals of x are chosen, and become what assigning makes of them
  pub chosen-putting_in : chosen (putting_in n x c) ≡ of x
  chosen-putting_in = fun_ext λ s. fun_ext λ v. chosen-put_at s v

  pub changed-putting_in : changed (putting_in n x c) ≡ assigned x c
  changed-putting_in = fun_ext λ s. fun_ext λ v. changed-put_at s v

pub chosen-putting : (x : ℕ) → x ≤ 1024 → (c : Bool) → chosen (putting x c) ≡ of x
chosen-putting x h c = chosen-putting_in 1025 x (omega arith) h c

pub changed-putting : (x : ℕ) → x ≤ 1024 → (c : Bool) → changed (putting x c) ≡ assigned x c
changed-putting x h c = changed-putting_in 1025 x (omega arith) h c
