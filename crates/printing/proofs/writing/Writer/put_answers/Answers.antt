-- `printing::writing::Writer::put_answers` meets its contract.
use Rattle.std.proofs.Common.{arith, ◌≡◌, ◌<◌}
use Rattle.rules.specs.Sizes.{table}
use Rattle.printing.specs.Outputs.{answer_lines}
use Rattle.printing.specs.Writers.{answers_in, answers_of}
use Rattle.printing.proofs.Shown.{pair_answer, line_fits, line_shown}
use Rattle.printing.proofs.Written.{wrote_none}
use Rattle.printing.proofs.writing.Writer.put_answers.Goals as goal

pub loop-i-preserved : goal.loop-i-preserved
loop-i-preserved c =
    let numbers = c.args.numbers.now in
    let l : c.loop-i.i < answers_in numbers = omega (arith, c.as_chunks.ensures.front_len) in
    line_shown numbers c.requires.few c.type_inv.numbers _ l c.requires.room c.loop-i.invariant _ (pair_answer numbers _ c.as_chunks.ensures.front l c.into.ensures) c.put_answer.ensures

pub returns : goal.returns
unfolding answers_of
returns c =
    let all : c.loop-i.i ≡ answers_in c.args.numbers.now = omega (arith, c.as_chunks.ensures.front_len) in
    rw all at c.loop-i.invariant

pub loop-i-init : goal.loop-i-init
unfolding table answer_lines
loop-i-init c = wrote_none _

pub put_answer-requires : goal.put_answer-requires
put_answer-requires c =
    let numbers = c.args.numbers.now in
    let l : c.loop-i.i < answers_in numbers = omega (arith, c.as_chunks.ensures.front_len) in
    line_fits numbers c.requires.few c.type_inv.numbers _ l c.requires.room c.loop-i.invariant _ (pair_answer numbers _ c.as_chunks.ensures.front l c.into.ensures)
