-- What `plumanchor::run` read is the front of the input: all of it, if the buffer holds more.
-- Assumes nothing.
use Rattle.std.proofs.Common.{rules, arith, ◌≡◌, ℕ, zero, suc, ◌+◌, ◌-◌, ◌<◌, ◌≤◌, List, [], ◌++◌, None, Some, IfSome, length, take, refl, sym, ap, ◌∙◌, subst, append-nil}
use Rattle.std.specs.Prelude.{Option}
use Rattle.std.specs.Io.KnownBytes.{Appends, Consumes, IsAtEnd}
use Rattle.std.proofs.Math.Seq.{take-append-add}
use Rattle.plumanchor.specs.Program.{answer_text}
use Rattle.plumanchor.proofs.run.Goals as goal

none_left : (k : ℕ) (ys : List ℕ) → (0 < k → ys ≡ []) → take k ys ≡ []
none_left zero ys end = refl
none_left (suc k) ys end = ap (take (suc k)) (end (omega arith))

front_read : (m : ℕ) (bs xs ys : List ℕ) → xs ≡ bs ++ ys → length bs ≤ m → (length bs < m → ys ≡ []) → bs ≡ take m xs
front_read m bs xs ys e within end =
    let room = m - length bs in
    let all : m ≡ length bs + room = omega arith in
    let nothing = none_left room ys (λ more. end (omega arith)) in
    sym (ap (take m) e ∙ ap (λ n. take n (bs ++ ys)) all ∙ take-append-add bs ys room ∙ ap (λ l. bs ++ l) nothing ∙ append-nil bs)

-- what holds of the bytes that were read holds of that front
of_front : (a b : Option (List ℕ)) (bs : List ℕ) (m : ℕ) (P : List ℕ → Type 0) → Consumes a b bs → length bs ≤ m → (length bs < m → IsAtEnd b) → P bs → IfSome a (λ xs. P (take m xs))
of_front None b bs m P read within end h = tt
of_front (Some x) None bs m P read within end h = absurd read
of_front (Some x) (Some y) bs m P read within end h = subst P (front_read m bs x y read within end) h

pub returns : goal.returns
returns g c =
    let kept = c.in_ok-length.ensures in
    of_front (g.R.Read.remaining c.args.from.now) (g.R.Read.remaining c.read_full.new.from) (take c.in_ok-length.length c.read_full.new.buffer) 46089
    (λ b. Appends (g.W.Write.contents c.args.to.now) (g.W.Write.contents c.write_answer.new.to) (answer_text 46088 b))
    kept.bytes (search rules) (search rules) c.in_ok-write_answer.ensures
