use Rattle.std.proofs.Common.{◌≡◌, ◌∙◌, ap, sym, append-nil, [], ◌∷◌, ◌++◌}
use Rattle.da_lang.specs.declared.query.Pattern.{Pattern}
use Rattle.type_table.specs.declared.scheme.Scheme.{Scheme}
use Rattle.type_demands.specs.Demands.{at_line}
use Rattle.type_demands.specs.KnownView.{context_of}
use Rattle.type_demands.specs.Terms.{RowSym, pattern_sym, row_sym}
use Rattle.type_demands.proofs.QueriesAt.{pattern-Any, pattern-Bind}
use Rattle.type_demands.proofs.patterns.+patterns.Goals as goal

pub pattern_demands-returns-in-Any : goal.pattern_demands-returns-in-Any
pattern_demands-returns-in-Any t c =
    let context = context_of c.args.known.now in
    let row = c.args.row.now in
    let asked = c.args.asked.now in
    let is : pattern_sym context c.args.pattern.now asked row ≡ row_sym [] row = ap (λ (p : Pattern). pattern_sym context p asked row) c.in-Any.is ∙ pattern-Any context asked row in
    (sym (ap (λ (x : RowSym). x.row) is), sym (append-nil c.args.demands.now) ∙ sym (ap (λ (x : RowSym). c.args.demands.now ++ at_line c.args.known.now.line x.demands) is))

pub pattern_demands-returns-in_ok-push-in-Bind : goal.pattern_demands-returns-in_ok-push-in-Bind
pattern_demands-returns-in_ok-push-in-Bind t c =
    let context = context_of c.args.known.now in
    let row = c.args.row.now in
    let asked = c.args.asked.now in
    let is : pattern_sym context c.args.pattern.now asked row ≡ row_sym [] (row ++ asked ∷ []) = ap (λ (p : Pattern). pattern_sym context p asked row) c.in-Bind.is ∙ pattern-Bind context asked row in
    (c.in_ok-push-in-Bind.ensures.ok ∙ ap (λ (one : Scheme). row ++ one ∷ []) c.in_ok-copy-in-Bind.ensures ∙ sym (ap (λ (x : RowSym). x.row) is), sym (append-nil c.args.demands.now) ∙ sym (ap (λ (x : RowSym). c.args.demands.now ++ at_line c.args.known.now.line x.demands) is))
