-- The goals of `clauses::write::write_name`. Assumes nothing.
use Rattle.std.proofs.Common.{refl, ap, subst, slice_index_or, arith}
use Rattle.rows.specs.Formats.{format_of}
use Rattle.rows.specs.declared.Format.{Format}
use Rattle.rows.proofs.Limits.{number_fits}
use Rattle.substitution.specs.Output.{Laid}
use Rattle.subtrees.specs.Subtrees.{subtree_in}
use Rattle.clauses.proofs.Writing.{literal-name, operator_name}
use Rattle.clauses.proofs.write.write_name.Goals as goal

pub write_row-requires : goal.write_row-requires
write_row-requires c =
    let same = ap (λ (f : Format). (format_of f).width) c.requires.1.same_format in
    (c.requires.1.room, c.requires.3, rw (c.argument_at-literal.ensures.0, same) (c.requires.0.literals_fit c.args.r c.requires.2))

pub returns-then-kind-le-NEGATIVE : goal.returns-then-kind-le-NEGATIVE
returns-then-kind-le-NEGATIVE c =
    let a = c.args in
    subst (Laid a.to.layout a.out.now _ a.to.at _)
    (literal-name (slice_index_or a.names.now a.r 0) (subtree_in a.s a.b.now a.r) c.kind_at-kind.ensures c.argument_at-literal.ensures.0
    c.if-kind-le-NEGATIVE.true)
    c.write_row.ensures

pub bounds-names-r : goal.bounds-names-r
bounds-names-r c = omega (arith, c.requires.2, c.requires.0.has_entries)

pub write_row-requires-2 : goal.write_row-requires-2
write_row-requires-2 c = (c.requires.1.room, c.requires.3, number_fits c.args.to.layout.format (omega (arith, c.type_inv.names c.args.r)))

pub returns : goal.returns
returns c =
    let a = c.args in
    subst (Laid a.to.layout a.out.now _ a.to.at _)
    (operator_name (subtree_in a.s a.b.now a.r) c.kind_at-kind.ensures (omega (arith, c.if-kind-le-NEGATIVE.false)) refl) c.write_row-2.ensures
