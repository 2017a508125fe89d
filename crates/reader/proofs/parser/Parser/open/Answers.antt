use Rattle.std.proofs.Common.{◌≤◌, length, ap, arith}
use Rattle.fixed_vec.specs.FixedVec.{content}
use Rattle.reader.proofs.Parsing.{room_to_open}
use Rattle.reader.proofs.parser.Parser.open.Goals as goal

pub returns-in_err-map_err : goal.returns-in_err-map_err
returns-in_err-map_err c = λ f k h r. absurd (let full : 2048 ≤ length (content c.args.self.now.frames) = grind (arith, c.in_err-map_err.ensures, c.push.ensures.top) in omega (arith, full, ap length h.frames_are, room_to_open f c.args.frame.at c.args.frame.left k c.args.at.place r))
