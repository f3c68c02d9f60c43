-- The lists that are read are those of the whole text, and what is written for a text has its truth.
use Rattle.std.proofs.Common.{ℕ, List, ap, Bor}
use Rattle.sheet.proofs.Truthful.{qdimacs_truthful}
use Rattle.rows.specs.Formats.{format_of}
use Rattle.rows.proofs.Limits.{sound as format_sound}
use Rattle.reader.proofs.Heading.{read_through}
use Rattle.reader.proofs.qdimacs.Goals as goal

pub returns : goal.returns
returns c =
    let opened = ap (λ (y : Bor (List ℕ)). y.now) c.open_text-r.ensures.0 in
    let same = ap (λ (y : Bor (List ℕ)). y.now) c.moved.ensures.0 in
    let read = read_through c.args.text.now c.header_next-h.result opened c.open_text-r.ensures.1 c.header_next-h.ensures same c.moved.ensures.1 (format_of c.args.f) c.args.out.now
    c.lists_next.ensures in
    (read, qdimacs_truthful (format_of c.args.f) (format_sound c.args.f) c.args.text.now c.args.out.now read)
