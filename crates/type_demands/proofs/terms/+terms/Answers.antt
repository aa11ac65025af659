use Rattle.std.proofs.Common.{◌≡◌, ◌∙◌, ap, sym, append-nil, List, ◌++◌, map}
use Rattle.da_lang.specs.declared.query.Term.{Term}
use Rattle.type_table.specs.declared.scheme.Scheme.TheVariants as s
use Rattle.type_demands.specs.Demands.{at_line}
use Rattle.type_demands.specs.KnownView.{context_of}
use Rattle.type_demands.specs.Syms.{Sym, demands_in, plain, schemes_in}
use Rattle.type_demands.specs.Terms.{term_sym}
use Rattle.type_demands.proofs.Listed.{tuple_listed}
use Rattle.type_demands.proofs.QueriesAt.{term-Me}
use Rattle.type_demands.proofs.TermForms.{term-parts}
use Rattle.type_demands.proofs.terms.+terms.Goals as goal

pub term_demands-returns-in-Me : goal.term_demands-returns-in-Me
term_demands-returns-in-Me t c =
    let context = context_of c.args.known.now in
    let row = c.args.row.now in
    let is : term_sym context c.args.term.now row ≡ plain s.Proc = ap (λ (x : Term). term_sym context x row) c.in-Me.is ∙ term-Me context row in
    (sym (ap (λ (x : Sym). x.scheme) is), sym (append-nil c.args.demands.now) ∙ sym (ap (λ (x : Sym). c.args.demands.now ++ at_line c.args.known.now.line x.demands) is))

pub term_demands-returns-in_ok-scheme-in-Tuple : goal.term_demands-returns-in_ok-scheme-in-Tuple
term_demands-returns-in_ok-scheme-in-Tuple t c =
    let context = context_of c.args.known.now in
    let row = c.args.row.now in
    tuple_listed c.args.known.now.line c.args.demands.now c.terms_demands.new.demands c.flat.new.demands (map (λ x. term_sym context x row) c.in-Tuple.parts) c.in_ok-parts-in-Tuple.parts c.in_ok-scheme-in-Tuple.scheme (term_sym context c.args.term.now row)
    (ap (λ (x : Term). term_sym context x row) c.in-Tuple.is ∙ term-parts context c.in-Tuple.parts row)
    (c.in_ok-parts-in-Tuple.ensures.0 ∙ ap (λ (xs : List Term). schemes_in (map (λ x. term_sym context x row) xs)) c.as_slice.ensures)
    (c.in_ok-parts-in-Tuple.ensures.1 ∙ ap (λ (xs : List Term). c.args.demands.now ++ at_line c.args.known.now.line (demands_in (map (λ x. term_sym context x row) xs))) c.as_slice.ensures)
    c.in_ok-scheme-in-Tuple.ensures.0 c.in_ok-scheme-in-Tuple.ensures.1
