use Rattle.std.proofs.Common.{◌≤◌, length, arith}
use Rattle.sheet_reader.proofs.Progress.{begins}
use Rattle.sheet_reader.proofs.Filling.{begun, too_long, refused_for, filled}
use Rattle.sheet_reader.proofs.whole.fill.Goals as goal

pub returns-then-text-gt-SHEET_BYTES : goal.returns-then-text-gt-SHEET_BYTES
returns-then-text-gt-SHEET_BYTES c = too_long c.args.text.now c.into.result (omega (arith, c.if-text-gt-SHEET_BYTES.true)) c.into.ensures

pub returns-in_err-signature : goal.returns-in_err-signature
returns-in_err-signature c =
    let b = c.args.text.now in
    let few : length c.args.text.now ≤ 32768 = omega (arith, c.if-text-gt-SHEET_BYTES.false) in
    refused_for b few c.read_heading.result c.from_residual.result c.in_err-signature.field-0.0 _ _ _ _ (c.read_heading.ensures b few (begins b c.new-lexer.result c.new-lexer.ensures.rest c.new-lexer.ensures.at)) c.in_err-signature.was c.from_residual.ensures.1

pub returns-in_err-read_weighings : goal.returns-in_err-read_weighings
returns-in_err-read_weighings c =
    let b = c.args.text.now in
    let few : length c.args.text.now ≤ 32768 = omega (arith, c.if-text-gt-SHEET_BYTES.false) in
    let h = c.in_ok-signature.ensures b few (begins b c.new-lexer.result c.new-lexer.ensures.rest c.new-lexer.ensures.at) in
    refused_for b few c.read_weighings.result c.from_residual-in_err-read_weighings.result c.in_err-read_weighings.field-0.0 _ _ _ _ (c.read_weighings.ensures b h) c.in_err-read_weighings.was c.from_residual-in_err-read_weighings.ensures.1

pub returns : goal.returns
returns c =
    let b = c.args.text.now in
    let few : length c.args.text.now ≤ 32768 = omega (arith, c.if-text-gt-SHEET_BYTES.false) in
    let h = c.in_ok-signature.ensures b few (begins b c.new-lexer.result c.new-lexer.ensures.rest c.new-lexer.ensures.at) in
    let (grid, r, first, second) = c.in_ok-read_weighings.ensures b h in
    let s = begun b _ grid c.begin.new.self c.read_weighings.new.lexer c.begin.ensures r in
    filled b few c.read_rules.result grid c.read_rules.new.sheet c.read_weighings.new.first c.read_weighings.new.second first second (c.read_rules.ensures.goes b grid s c.begin.ensures.unjudged)

pub read_rules-requires : goal.read_rules-requires
read_rules-requires c =
    let b = c.args.text.now in
    let few : length c.args.text.now ≤ 32768 = omega (arith, c.if-text-gt-SHEET_BYTES.false) in
    let h = c.in_ok-signature.ensures b few (begins b c.new-lexer.result c.new-lexer.ensures.rest c.new-lexer.ensures.at) in
    let (grid, r, first, second) = c.in_ok-read_weighings.ensures b h in
    (b, grid, begun b _ grid c.begin.new.self c.read_weighings.new.lexer c.begin.ensures r)
