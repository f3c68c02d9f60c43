-- The next word, and where it leads.
-- Assumes nothing.
use mathlib.Core.Path.{◌≡◌, refl, sym, ap, ◌∙◌, subst}
use mathlib.Core.Bool.{true, false}
use mathlib.Core.List.{List, [], ◌∷◌, map, tail}
use Prim.Native.Nat.{ℕ, suc, ◌≤◌}
use native.Mathlib.Omega.{arith}
use lib.ListN.{drop, get_or}
use Rattle.formula.specs.Tree.{Quantifier, and, or}
use Rattle.sheet.specs.Format.{Bytes}
use Rattle.sheet.specs.Qdimacs.{magnitude, Token, token}
use Rattle.sheet.specs.Texts.{separated}
use Rattle.words.specs.Numbers.{Capped, largest}
use Rattle.words.specs.Tokens.{first_class, Reads}
use Rattle.words.specs.declared.token.Token as code
use Rattle.words.proofs.Classes.{View, view_other, view_exists, view_for_all, view_p, view_cnf, view_zero, view_plain, view_minus, tells}
use Rattle.qdimacs.specs.Inner.Lists.{State, between, within, ordered, clause_tokens, bound_from}
use Rattle.qdimacs.specs.Inner.Cursor.{tokens_at, state_code, step}

pub data Next (b : Bytes) (at : ℕ) (t : code.Token) : Type 0 where
  none : t.class ≡ 0 → tokens_at b at ≡ [] → tokens_at b t.to ≡ [] → Next b at t
  word : {w : Token} {m : ℕ} → View t.class w m → (6 ≤ t.class → Capped largest m t.magnitude) → tokens_at b at ≡ w ∷ tokens_at b t.to
      → Next b at t

pub next : {b : Bytes} {at : ℕ} {t : code.Token} → Reads b at t → Next b at t
unfolding first_class
next {b} {at} {t} r = go (separated (drop at b)) refl
  where
    go : (ws : List Bytes) → separated (drop at b) ≡ ws → Next b at t
    go [] e = none (r.class_is ∙ ap first_class e) (ap (map token) e) (ap (map token) (r.others ∙ ap tail e))
    go (w ∷ ws) e =
        word (subst (λ k. View k (token w) (magnitude w)) (sym (r.class_is ∙ ap first_class e)) (tells w).view_is)
        (λ l. subst (λ v. Capped largest (magnitude v) t.magnitude) (ap (λ vs. get_or vs 0 []) e) (r.magnitude_is l))
        (ap (map token) e ∙ ap (λ (vs : List Bytes). token w ∷ map token vs) (sym (r.others ∙ ap tail e)))

-- where a word leads, by what is left of the words

pub data Led (s : State) (ts us : List Token) (r k v : ℕ) : Type 0 where
  begins : r ≡ 3 → ordered s ts ≡ true → clause_tokens s ts ≡ ts → bound_from s ts ≡ [] → Led s ts us r k v
  breaks : r ≡ 4 → ordered s ts ≡ false → Led s ts us r k v
  goes : (s' : State) → r ≡ state_code s' → (k ≡ 7 → ⊥) → ordered s ts ≡ ordered s' us → clause_tokens s ts ≡ clause_tokens s' us
      → bound_from s ts ≡ bound_from s' us → Led s ts us r k v
  binds : (q : Quantifier) {n : ℕ} → s ≡ within q → r ≡ state_code s → k ≡ 7 → Capped largest (suc n) v → ordered s ts ≡ ordered s us
      → clause_tokens s ts ≡ clause_tokens s us → bound_from s ts ≡ record { quantifier = q; variable = suc n } ∷ bound_from s us → Led s ts us r k v

led_word : (s : State) {k m : ℕ} {w : Token} (us : List Token) (v : ℕ) → View k w m → (6 ≤ k → Capped largest m v) → Led s (w ∷ us) us (step (state_code s) k) k v
unfolding ordered clause_tokens bound_from
led_word between us v view_other c = begins refl refl refl refl
led_word between us v view_exists c = goes (within or) refl (λ e. absurd (omega arith)) refl refl refl
led_word between us v view_for_all c = goes (within and) refl (λ e. absurd (omega arith)) refl refl refl
led_word between us v view_p c = begins refl refl refl refl
led_word between us v view_cnf c = begins refl refl refl refl
led_word between us v view_zero c = begins refl refl refl refl
led_word between us v view_plain c = begins refl refl refl refl
led_word between us v view_minus c = begins refl refl refl refl
led_word (within or) us v view_other c = breaks refl refl
led_word (within or) us v view_exists c = breaks refl refl
led_word (within or) us v view_for_all c = breaks refl refl
led_word (within or) us v view_p c = breaks refl refl
led_word (within or) us v view_cnf c = breaks refl refl
led_word (within or) us v view_zero c = goes between refl (λ e. absurd (omega arith)) refl refl refl
led_word (within or) us v view_plain c = binds or refl refl refl (c (omega arith)) refl refl refl
led_word (within or) us v view_minus c = breaks refl refl
led_word (within and) us v view_other c = breaks refl refl
led_word (within and) us v view_exists c = breaks refl refl
led_word (within and) us v view_for_all c = breaks refl refl
led_word (within and) us v view_p c = breaks refl refl
led_word (within and) us v view_cnf c = breaks refl refl
led_word (within and) us v view_zero c = goes between refl (λ e. absurd (omega arith)) refl refl refl
led_word (within and) us v view_plain c = binds and refl refl refl (c (omega arith)) refl refl refl
led_word (within and) us v view_minus c = breaks refl refl

led_none : (s : State) (v : ℕ) → Led s [] [] (step (state_code s) 0) 0 v
led_none between v = goes between refl (λ e. absurd (omega arith)) refl refl refl
led_none (within or) v = goes (within or) refl (λ e. absurd (omega arith)) refl refl refl
led_none (within and) v = goes (within and) refl (λ e. absurd (omega arith)) refl refl refl

pub led : (s : State) {b : Bytes} {at : ℕ} {t : code.Token} → Next b at t
    → Led s (tokens_at b at) (tokens_at b t.to) (step (state_code s) t.class) t.class t.magnitude
led s {b} {at} {t} (none k e f) = rw (k, e, f) (led_none s t.magnitude)
led s {b} {at} {t} (word v c e) = rw e (led_word s (tokens_at b t.to) t.magnitude v c)
