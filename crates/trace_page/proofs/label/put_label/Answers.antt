use Rattle.std.proofs.Common.{◌++◌, ◌∙◌, ap, append-nil, sym}
use Rattle.trace_page.specs.Shapes.{label_of}
use Rattle.trace_page.proofs.label.put_label.Goals as goal

pub returns-in-Lost : goal.returns-in-Lost
returns-in-Lost c = sym (append-nil c.args.out.now) ∙ ap (λ a. c.args.out.now ++ label_of a) (sym c.in-Lost.is)

pub returns-in-Again : goal.returns-in-Again
returns-in-Again c = sym (append-nil c.args.out.now) ∙ ap (λ a. c.args.out.now ++ label_of a) (sym c.in-Again.is)
