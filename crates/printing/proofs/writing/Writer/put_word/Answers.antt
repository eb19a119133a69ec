-- `printing::writing::Writer::put_word` meets its contract.
use Rattle.std.proofs.Common.{refl, arith, ◌≡◌, ◌+◌, ◌-◌, length}
use Rattle.std.proofs.Math.Seq.{drop-drop}
use Rattle.printing.specs.Writers.{with_bytes}
use Rattle.printing.proofs.writing.Writer.put_word.Goals as goal

pub returns : goal.returns
unfolding with_bytes
returns c =
    let at = c.args.self.now.at in
    let word = c.args.word.now in
    let long : at + length word - at ≡ length word = omega arith in
    record { same = refl; past = refl; put = rw (long, drop-drop (length word) at c.args.self.now.out.now) (simp c.copy_from_slice.ensures.after) }
