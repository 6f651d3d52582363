use Rattle.{
  std.proofs.Common.{◌≢◌, ◌<◌, ◌≤◌, length, get_or, arith},
  script_demo.proofs.SizeLaws.{no_size, size},
}
use Rattle.script_demo.proofs.size.demo_size.Goals as goal

pub returns-in_default-parse : goal.returns-in_default-parse
returns-in_default-parse c =
    let unsigned : get_or c.args.word.now 0 0 ≢ 43 = rw c.as_bytes.ensures.value at c.if-first-eq43.false in
    let short : length c.args.word.now ≤ 6 = omega arith in
    no_size c.args.word.now c.parse.result c.parse.ensures.value.0 unsigned short _ c.in_default-parse.is

pub returns : goal.returns
returns c =
    let unsigned : get_or c.args.word.now 0 0 ≢ 43 = rw c.as_bytes.ensures.value at c.if-first-eq43.false in
    let short : length c.args.word.now ≤ 6 = omega arith in
    let some : 0 < c.in-Ok.orders = omega arith in
    let few : c.in-Ok.orders ≤ 100000 = omega arith in
    size c.args.word.now c.parse.result c.parse.ensures.value.0 unsigned short _ c.in-Ok.is some few
