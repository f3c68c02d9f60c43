-- prefix_end: the words before `at` are those of quantifier lines.
-- Assumes nothing.
use mathlib.Core.Path.{◌≡◌, refl, sym, ap, ◌∙◌, subst}
use mathlib.Core.Bool.{false≢true}
use mathlib.Core.List.{[], map}
use Prim.Native.Nat.{ℕ, ◌≤◌, ◌<◌}
use native.Mathlib.Omega.{arith}
use lib.Dec.{eqb}
use lib.ListN.{length, drop_of_length-le}
use Rattle.formula.specs.Tree.{and, or}
use Rattle.sheet.specs.Format.{Bytes}
use Rattle.sheet.specs.Qdimacs.{split, nonempty, is_nil, token}
use Rattle.sheet.specs.Texts.{separated}
use Rattle.words.specs.Tokens.{Reads}
use Rattle.words.specs.declared.token.Token as code
use Rattle.qdimacs.specs.Inner.Lists.{State, between, within, ordered, clause_tokens}
use Rattle.qdimacs.specs.Inner.Cursor.{tokens_at, state_code, step, Cuts}
use Rattle.qdimacs.proofs.Next.{next, Led, begins, breaks, goes, binds, led}

pub no_tokens : (b : Bytes) (at : ℕ) → length b ≤ at → tokens_at b at ≡ []
unfolding separated split nonempty is_nil
no_tokens b at l = ap (λ (d : Bytes). map token (separated d)) (drop_of_length-le b {i = at} l)

pub record Prefixed (b : Bytes) (st at : ℕ) : Type 0 where
  pub state : State
  pub code_is : st ≡ state_code state
  pub inside : at ≤ length b
  pub ordered_so : ordered between (tokens_at b 0) ≡ ordered state (tokens_at b at)
  pub clauses_so : clause_tokens between (tokens_at b 0) ≡ clause_tokens state (tokens_at b at)

pub prefixed_none : (b : Bytes) → Prefixed b 0 0
prefixed_none b = record { state = between; code_is = refl; inside = omega arith; ordered_so = refl; clauses_so = refl }

pub small_code : (s : State) → state_code s < 3
small_code between = omega arith
small_code (within or) = omega arith
small_code (within and) = omega arith

module _ {b : Bytes} {st at : ℕ} (p : Prefixed b st at) {t : code.Token} (reads : Reads b at t) {r : ℕ} (steps : r ≡ step st t.class) where
  here : Led p.state (tokens_at b at) (tokens_at b t.to) r t.class t.magnitude
  here =
      subst (λ k. Led p.state (tokens_at b at) (tokens_at b t.to) k t.class t.magnitude)
      (sym (steps ∙ ap (λ s. step s t.class) p.code_is)) (led p.state (next reads))

  pub prefixed_ends : 3 ≤ r → Cuts b (record { ordered = eqb r 3; at = at })
  prefixed_ends l = go here
    where
      go : Led p.state (tokens_at b at) (tokens_at b t.to) r t.class t.magnitude → Cuts b (record { ordered = eqb r 3; at = at })
      go (begins e o c f) =
          record {
            inside = p.inside;
            ordered_is = ap (λ k. eqb k 3) e ∙ sym (p.ordered_so ∙ o);
            clauses_from = λ _. sym (p.clauses_so ∙ c);
          }
      go (breaks e o) =
          record {
            inside = p.inside;
            ordered_is = ap (λ k. eqb k 3) e ∙ sym (p.ordered_so ∙ o);
            clauses_from = λ h. absurd (false≢true (sym (ap (λ k. eqb k 3) e) ∙ h));
          }
      go (goes s' e n o c f) = absurd (omega (arith, e, small_code s'))
      go (binds q i e k v o c f) = absurd (omega (arith, e, small_code p.state))

  pub prefixed_more : r < 3 → Prefixed b r t.to
  prefixed_more l = go here
    where
      go : Led p.state (tokens_at b at) (tokens_at b t.to) r t.class t.magnitude → Prefixed b r t.to
      go (begins e o c f) = absurd (omega (arith, e))
      go (breaks e o) = absurd (omega (arith, e))
      go (goes s' e n o c f) =
          record { state = s'; code_is = e; inside = reads.inside; ordered_so = p.ordered_so ∙ o; clauses_so = p.clauses_so ∙ c }
      go (binds q i e k v o c f) =
          record { state = p.state; code_is = e; inside = reads.inside; ordered_so = p.ordered_so ∙ o; clauses_so = p.clauses_so ∙ c }

pub prefixed_all : {b : Bytes} {st at : ℕ} → Prefixed b st at → length b ≤ at → Cuts b (record { ordered = eqb st 0; at = at })
unfolding ordered clause_tokens
prefixed_all {b} {st} {at} p l =
    let e = no_tokens b at l in
    record {
      inside = p.inside;
      ordered_is = ap (λ k. eqb k 0) p.code_is ∙ closed p.state ∙ sym (p.ordered_so ∙ ap (ordered p.state) e);
      clauses_from = λ _. e ∙ sym (p.clauses_so ∙ ap (clause_tokens p.state) e);
    }
  where
    closed : (s : State) → eqb (state_code s) 0 ≡ ordered s []
    closed between = refl
    closed (within or) = refl
    closed (within and) = refl
