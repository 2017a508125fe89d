use Rattle.std.proofs.Common.{Err, sym, ap, ◌∙◌, arith}
use Rattle.reading.proofs.Headings.{heading_law}
use Rattle.reading.specs.Heading.{read_heading}
use Rattle.reader.specs.Heading.{Heads}
use Rattle.reader.proofs.Headings.{long_sheet, heading_read, heading_fault}
use Rattle.reader.proofs.heading.read_signature.Goals as goal

reads : (c : goal.After-read) → Heads c.read.result (read_heading c.args.text.now)
reads c = heading_read c.args.text.now c.read.result (λ h. c.read.ensures.within h _ (sym c.new.ensures)) c.read.ensures.beyond

pub returns-then-text-gt-SHEET_BYTES : goal.returns-then-text-gt-SHEET_BYTES
returns-then-text-gt-SHEET_BYTES c =
    let r : Heads (Err c.into.result) (read_heading c.args.text.now) = long_sheet c.args.text.now (omega arith) ∙ ap Err (sym c.into.ensures) in
    record { reads = r; law = heading_law c.args.text.now; fault = heading_fault c.args.text.now (Err c.into.result) r }

pub returns : goal.returns
returns c = let r = reads c in record { reads = r; law = heading_law c.args.text.now; fault = heading_fault c.args.text.now c.read.result r }
