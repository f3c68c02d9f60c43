-- Lists cut at separators, and tests of all their elements.
-- Assumes nothing.
use mathlib.Core.Path.{◌≡◌, refl, sym, ◌∙◌, ap, ap₂}
use mathlib.Core.Bool.{Bool, true, false, not, ◌&&◌, ◌||◌, cond, and_assoc, false≢true}
use mathlib.Core.List.{List, [], ◌∷◌, ◌++◌, flat_map}
use Rattle.sheet.specs.Qdimacs.{onto_first, split, is_nil, nonempty, all}
use Rattle.sheet.specs.Format.{Every}
use Rattle.formula.proofs.Booleans.{and_parts}
use Rattle.sheet.specs.Texts.{Uncut}

-- all

pub all-++ : {A : Type 0} (p : A → Bool) (k l : List A) → all p (k ++ l) ≡ (all p k && all p l)
unfolding all
all-++ p [] l = refl
all-++ p (a ∷ k) l = ap (λ (b : Bool). p a && b) (all-++ p k l) ∙ sym (and_assoc (p a) (all p k) (all p l))

pub all_both : {A : Type 0} (p q : A → Bool) (l : List A) → all p l ≡ true → all q l ≡ true → all (λ a. p a && q a) l ≡ true
unfolding all
all_both p q [] h k = refl
all_both p q (a ∷ l) h k =
    let s = and_parts (p a) (all p l) h in
    let t = and_parts (q a) (all q l) k in
    ap₂ ◌&&◌ (ap₂ ◌&&◌ s.0 t.0) (all_both p q l s.1 t.1)

pub all-leads : {A : Type 0} (p q : A → Bool) → ((a : A) → p a ≡ true → q a ≡ true) → (l : List A) → all p l ≡ true → all q l ≡ true
unfolding all
all-leads p q f [] h = refl
all-leads p q f (a ∷ l) h =
    let s = and_parts (p a) (all p l) h in
    ap₂ ◌&&◌ (f a s.0) (all-leads p q f l s.1)

-- split

module _ {A : Type 0} (p : A → Bool) where
  -- there is always a first piece
  pub record Cut (l : List A) : Type 0 where
    pub first : List A
    pub others : List (List A)
    pub cut_so : split p l ≡ first ∷ others

  cut_onto : (a : A) (ps : List (List A)) → (first : List A) × (others : List (List A)) × (onto_first a ps ≡ first ∷ others)
  unfolding onto_first
  cut_onto a [] = (a ∷ [], [], refl)
  cut_onto a (q ∷ qs) = (a ∷ q, qs, refl)

  pub cut : (l : List A) → Cut l
  unfolding split
  cut [] = record { first = []; others = []; cut_so = refl }
  cut (a ∷ l) = by (p a) refl
    where
      by : (b : Bool) → p a ≡ b → Cut (a ∷ l)
      by true e = record { first = []; others = split p l; cut_so = rw e }
      by false e =
          let o = cut_onto a (split p l) in
          record { first = o.0; others = o.1; cut_so = rw e o.2 }

  pub split_separator : (a : A) (l : List A) → p a ≡ true → split p (a ∷ l) ≡ [] ∷ split p l
  unfolding split
  split_separator a l e = rw e

  pub split_within : (a : A) (l : List A) → p a ≡ false → split p (a ∷ l) ≡ onto_first a (split p l)
  unfolding split
  split_within a l e = rw e

  onto-first-++ : (a : A) (l : List A) (qs : List (List A)) → onto_first a (split p l ++ qs) ≡ onto_first a (split p l) ++ qs
  unfolding onto_first
  onto-first-++ a l qs = let c = cut l in rw c.cut_so

  -- a separator cuts
  pub split-++ : (l : List A) (a : A) (r : List A) → p a ≡ true → split p (l ++ a ∷ r) ≡ split p l ++ split p r
  unfolding split
  split-++ [] a r e = rw e
  split-++ (b ∷ l) a r e = by (p b) (split-++ l a r e)
    where
      by : (m : Bool) → split p (l ++ a ∷ r) ≡ split p l ++ split p r
          → cond m ([] ∷ split p (l ++ a ∷ r)) (onto_first b (split p (l ++ a ∷ r))) ≡ cond m ([] ∷ split p l) (onto_first b (split p l)) ++ split p r
      by true ih = ap {B = List (List A)} (λ qs. [] ∷ qs) ih
      by false ih = ap (onto_first b) ih ∙ onto-first-++ b l (split p r)

  -- a list without a separator is one piece, and such is every piece

  pub split_uncut : (l : List A) → Uncut p l → split p l ≡ l ∷ []
  unfolding split all onto_first
  split_uncut [] h = refl
  split_uncut (a ∷ l) h = by (p a) h (split_uncut l)
    where
      by : (m : Bool) → (not m && all (λ b. not (p b)) l) ≡ true → (Uncut p l → split p l ≡ l ∷ [])
          → cond m ([] ∷ split p l) (onto_first a (split p l)) ≡ (a ∷ l) ∷ []
      by true k ih = absurd (false≢true k)
      by false k ih = ap (onto_first a) (ih k)

  pub split_piece : (l : List A) (a : A) (r : List A) → Uncut p l → p a ≡ true → split p (l ++ a ∷ r) ≡ l ∷ split p r
  split_piece l a r h e = split-++ l a r e ∙ ap {B = List (List A)} (λ qs. qs ++ split p r) (split_uncut l h)

  pub pieces_uncut : (l : List A) → Every (Uncut p) (split p l)
  unfolding split all onto_first
  pieces_uncut [] = (refl, tt)
  pieces_uncut (a ∷ l) = by (p a) refl (pieces_uncut l)
    where
      onto : (qs : List (List A)) → p a ≡ false → Every (Uncut p) qs → Every (Uncut p) (onto_first a qs)
      onto [] e h = (rw e, tt)
      onto (q ∷ qs) e h = (rw e h.0, h.1)

      by : (m : Bool) → p a ≡ m → Every (Uncut p) (split p l) → Every (Uncut p) (cond m ([] ∷ split p l) (onto_first a (split p l)))
      by true e h = (refl, h)
      by false e h = onto (split p l) e h

-- cutting at two kinds of separators is cutting at the one, and each piece at the other
pub split_either : {A : Type 0} (p q : A → Bool) (l : List A) → split (λ a. p a || q a) l ≡ flat_map (split p) (split q l)
unfolding split flat_map onto_first
split_either p q [] = refl
split_either {A} p q (a ∷ l) = by (p a) refl (q a) refl (split_either p q l)
  where
    e : A → Bool
    e b = p b || q b

    by : (m : Bool) → p a ≡ m → (n : Bool) → q a ≡ n → split e l ≡ flat_map (split p) (split q l)
        → cond (m || n) ([] ∷ split e l) (onto_first a (split e l)) ≡
        flat_map (split p) (cond n ([] ∷ split q l) (onto_first a (split q l)))
    by true h true k ih = ap {B = List (List A)} (λ r. [] ∷ r) ih
    by false h true k ih = ap {B = List (List A)} (λ r. [] ∷ r) ih
    by true h false k ih =
        let c = cut q l in
        rw c.cut_so (rw h (ap {B = List (List A)} (λ r. [] ∷ r) (ih ∙ ap (flat_map (split p)) c.cut_so)))
    by false h false k ih =
        let c = cut q l in
        rw c.cut_so
        (rw h (ap (onto_first a) (ih ∙ ap (flat_map (split p)) c.cut_so) ∙ onto-first-++ p a c.first (flat_map (split p) c.others)))

-- nonempty

pub nonempty-++ : {A : Type 0} (k l : List (List A)) → nonempty (k ++ l) ≡ nonempty k ++ nonempty l
unfolding nonempty
nonempty-++ [] l = refl
nonempty-++ {A} (q ∷ k) l = by (is_nil q) (nonempty-++ k l)
  where
    by : (m : Bool) → nonempty (k ++ l) ≡ nonempty k ++ nonempty l
        → cond m (nonempty (k ++ l)) (q ∷ nonempty (k ++ l)) ≡ cond m (nonempty k) (q ∷ nonempty k) ++ nonempty l
    by true ih = ih
    by false ih = ap {B = List (List A)} (λ r. q ∷ r) ih

pub nonempty_flatMap : {A B : Type 0} (f : B → List (List A)) (l : List B) → nonempty (flat_map f l) ≡ flat_map (λ b. nonempty (f b)) l
unfolding flat_map nonempty
nonempty_flatMap f [] = refl
nonempty_flatMap f (b ∷ l) = nonempty-++ (f b) (flat_map f l) ∙ ap (λ (r : List (List _)). nonempty (f b) ++ r) (nonempty_flatMap f l)
