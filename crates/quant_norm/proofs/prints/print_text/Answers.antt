use Rattle.std.proofs.Common.{◌+◌, ◌∙◌, ap, drop, sym}
use Rattle.std.proofs.lemmas.List.{drop_all}
use Rattle.quant_norm.specs.Prints.{print_from}
use Rattle.quant_norm.proofs.PrintLaws.{print_next}
use Rattle.quant_norm.proofs.prints.print_text.Goals as goal

pub loop-byte-preserved : goal.loop-byte-preserved
loop-byte-preserved c =
    ap (λ print. print_from print (drop (c.loop-byte.byte-index + 1) c.args.text.now)) c.next_print-print.ensures
    ∙ sym (print_next c.args.text.now c.loop-byte.byte-index c.loop-byte.print c.loop-byte-test.true) ∙ c.loop-byte.invariant

pub returns : goal.returns
returns c = ap (print_from c.loop-byte.print) (sym (drop_all c.loop-byte.byte-index c.args.text.now c.loop-byte-test.false)) ∙ c.loop-byte.invariant
