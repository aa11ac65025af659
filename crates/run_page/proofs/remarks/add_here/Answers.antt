use Rattle.std.proofs.Common.{[], ◌++◌, ◌∙◌, ap, append-nil, drop, sym, take}
use Rattle.std.proofs.lemmas.Result.{on_ok_weaker}
use Rattle.std.specs.Prelude.{bytes_eq, if◌then◌else◌, option_to_list, take_while}
use Rattle.da_values.specs.Piece.{number_of}
use Rattle.run_page.specs.Remarks.{is_digit}
use Rattle.run_page.proofs.remarks.add_here.Goals as goal

pub returns-then-eq : goal.returns-then-eq
returns-then-eq c =
    let text = c.args.text.now in
    let old = c.args.numbers.now in
    let here = option_to_list (number_of (take_while is_digit (drop 7 text))) in
    on_ok_weaker c.add_number.result
    (λ adds.
    adds ∙ ap (λ digits. old ++ option_to_list (number_of digits)) (c.digits_of.ensures ∙ ap (take_while is_digit) c.cut.ensures.rest)
    ∙ ap (λ same. old ++ (if same then here else [])) (sym c.if-eq.true ∙ c.eq.ensures ∙ ap (λ word. bytes_eq word c.as_slice.result.now) c.cut.ensures.front ∙ ap (bytes_eq (take 7 text)) c.as_slice.ensures)) c.add_number.ensures

pub returns : goal.returns
returns c =
    let text = c.args.text.now in
    let old = c.args.numbers.now in
    let here = option_to_list (number_of (take_while is_digit (drop 7 text))) in
    sym (append-nil old)
    ∙ ap (λ same. old ++ (if same then here else [])) (sym c.if-eq.false ∙ c.eq.ensures ∙ ap (λ word. bytes_eq word c.as_slice.result.now) c.cut.ensures.front ∙ ap (bytes_eq (take 7 text)) c.as_slice.ensures)
