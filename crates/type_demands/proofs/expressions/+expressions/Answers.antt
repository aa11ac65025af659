use Rattle.std.proofs.Common.{◌≡◌, ◌∙◌, refl, ap, ap₂, sym, append-nil, List, [], ◌∷◌, ◌++◌}
use Rattle.da_lang.specs.declared.program.ChainPart.{ChainPart}
use Rattle.da_lang.specs.declared.program.RExpr.{RExpr}
use Rattle.da_lang.specs.declared.program.RExpr.TheVariants as re
use Rattle.da_lang.specs.World.{at_number}
use Rattle.type_table.specs.declared.scheme.Scheme.{Scheme}
use Rattle.type_table.specs.declared.scheme.Scheme.TheVariants as s
use Rattle.type_demands.specs.declared.demand.Demand.{Demand}
use Rattle.type_demands.specs.declared.demand.Demand.TheVariants as d
use Rattle.type_demands.specs.Conds.{asked_sym}
use Rattle.type_demands.specs.Demands.{at_line}
use Rattle.type_demands.specs.ExprLists.{first_set_in, further_in, right_in, sym_where, syms_in, truths_in}
use Rattle.type_demands.specs.KnownView.{context_of, slot_in}
use Rattle.type_demands.specs.Syms.{demanding, flat_sym, literal_sym, same_as, tuple_sym}
use Rattle.type_demands.proofs.ExprForms.{fits-others, no_others, own-And, own-Ask, own-Chain, own-Clock, own-Cmp, own-Const, own-Me, own-Member, own-Not, own-Or, own-Procs, own-Range, own-SetOf, own-Slot, own-Tuple}
use Rattle.type_demands.proofs.Listed.{after_listed, form_listed, own, tuple_listed, typed_listed}
use Rattle.type_demands.proofs.expressions.+expressions.Goals as goal

pub expr_demands-returns-in-Const : goal.expr_demands-returns-in-Const
expr_demands-returns-in-Const t c =
    let known = c.args.known.now in
    form_listed known c.args.demands.now c.literal.new.demands c.literal.result c.args.x.now (re.Const c.in-Const.value) (flat_sym (literal_sym c.in-Const.value)) c.in-Const.is
    (own-Const (context_of known) known.queries.now c.in-Const.value) c.literal.ensures

pub expr_demands-returns-in-Procs : goal.expr_demands-returns-in-Procs
expr_demands-returns-in-Procs t c =
    let known = c.args.known.now in
    form_listed known c.args.demands.now c.flat_set.new.demands c.flat_set.result c.args.x.now (re.Procs c.in-Procs.field-0) (sym_where (d.Flat (s.Set s.Proc) ∷ []) (s.Set s.Proc)) c.in-Procs.is
    (own-Procs (context_of known) known.queries.now c.in-Procs.field-0) c.flat_set.ensures

pub expr_demands-returns-in-Me : goal.expr_demands-returns-in-Me
expr_demands-returns-in-Me t c =
    let known = c.args.known.now in
    form_listed known c.args.demands.now c.flat.new.demands c.flat.result c.args.x.now re.Me (sym_where (d.Flat s.Proc ∷ []) s.Proc) c.in-Me.is (own-Me (context_of known) known.queries.now) c.flat.ensures

pub expr_demands-returns-in-Slot : goal.expr_demands-returns-in-Slot
expr_demands-returns-in-Slot t c =
    let known = c.args.known.now in
    form_listed known c.args.demands.now c.slot_type.new.demands c.slot_type.result c.args.x.now (re.Slot c.in-Slot.slot) (flat_sym (slot_in known.slots.now c.in-Slot.slot)) c.in-Slot.is
    (own-Slot (context_of known) known.queries.now c.in-Slot.slot) c.slot_type.ensures

pub expr_demands-returns-in-Clock : goal.expr_demands-returns-in-Clock
expr_demands-returns-in-Clock t c =
    let known = c.args.known.now in
    form_listed known c.args.demands.now c.flat-in-Clock.new.demands c.flat-in-Clock.result c.args.x.now re.Clock (sym_where (d.Flat s.Int ∷ []) s.Int) c.in-Clock.is (own-Clock (context_of known) known.queries.now) c.flat-in-Clock.ensures

pub expr_demands-returns-in-Ask : goal.expr_demands-returns-in-Ask
expr_demands-returns-in-Ask t c =
    let known = c.args.known.now in
    form_listed known c.args.demands.now c.asked.new.demands c.asked.result c.args.x.now (re.Ask c.in-Ask.query) (flat_sym (asked_sym (context_of known) (at_number known.queries.now c.in-Ask.query))) c.in-Ask.is
    (own-Ask (context_of known) known.queries.now c.in-Ask.query) c.asked.ensures

pub expr_demands-returns-in_ok-integer-in-Range : goal.expr_demands-returns-in_ok-integer-in-Range
expr_demands-returns-in_ok-integer-in-Range t c =
    let known = c.args.known.now in
    let first = c.get.result.now in
    let end = c.get-in-Range.result.now in
    after_listed known c.args.demands.now c.integer.new.demands c.ranged.new.demands c.ranged.result c.args.x.now (re.Range first end)
    (demanding d.Int (own known first)) (flat_sym (sym_where (demanding d.Int (own known end)) (s.Set s.Int)))
    (c.in-Range.is ∙ ap₂ (λ (x : RExpr) (y : RExpr). re.Range x y) (sym c.get.ensures) (sym c.get-in-Range.ensures))
    (own-Range (context_of known) known.queries.now first end) c.in_ok-integer-in-Range.ensures c.ranged.ensures

pub expr_demands-returns-in-Tuple : goal.expr_demands-returns-in-Tuple
expr_demands-returns-in-Tuple t c =
    let known = c.args.known.now in
    let parts = c.as_slice.result.now in
    form_listed known c.args.demands.now c.tuple.new.demands c.tuple.result c.args.x.now (re.Tuple parts) (flat_sym (tuple_sym (syms_in (context_of known) known.queries.now parts)))
    (c.in-Tuple.is ∙ ap (λ (xs : List RExpr). re.Tuple xs) (sym c.as_slice.ensures)) (own-Tuple (context_of known) known.queries.now parts) c.tuple.ensures

pub expr_demands-returns-in-SetOf : goal.expr_demands-returns-in-SetOf
expr_demands-returns-in-SetOf t c =
    let known = c.args.known.now in
    let parts = c.as_slice-in-SetOf.result.now in
    form_listed known c.args.demands.now c.first_set.new.demands c.first_set.result c.args.x.now (re.SetOf parts) (first_set_in (context_of known) known.queries.now parts)
    (c.in-SetOf.is ∙ ap (λ (xs : List RExpr). re.SetOf xs) (sym c.as_slice-in-SetOf.ensures)) (own-SetOf (context_of known) known.queries.now parts) c.first_set.ensures

pub expr_demands-returns-in-Or : goal.expr_demands-returns-in-Or
expr_demands-returns-in-Or t c =
    let known = c.args.known.now in
    let parts = c.as_slice-in-Or.result.now in
    form_listed known c.args.demands.now c.all_truths.new.demands c.all_truths.result c.args.x.now (re.Or parts) (flat_sym (sym_where (truths_in (context_of known) known.queries.now parts) s.Bool))
    (c.in-Or.is ∙ ap (λ (xs : List RExpr). re.Or xs) (sym c.as_slice-in-Or.ensures)) (own-Or (context_of known) known.queries.now parts) c.all_truths.ensures

pub expr_demands-returns-in-And : goal.expr_demands-returns-in-And
expr_demands-returns-in-And t c =
    let known = c.args.known.now in
    let parts = c.as_slice-in-And.result.now in
    form_listed known c.args.demands.now c.all_truths-in-And.new.demands c.all_truths-in-And.result c.args.x.now (re.And parts) (flat_sym (sym_where (truths_in (context_of known) known.queries.now parts) s.Bool))
    (c.in-And.is ∙ ap (λ (xs : List RExpr). re.And xs) (sym c.as_slice-in-And.ensures)) (own-And (context_of known) known.queries.now parts) c.all_truths-in-And.ensures

pub expr_demands-returns-in-Not : goal.expr_demands-returns-in-Not
expr_demands-returns-in-Not t c =
    let known = c.args.known.now in
    let part = c.get-in-Not.result.now in
    form_listed known c.args.demands.now c.negated.new.demands c.negated.result c.args.x.now (re.Not part) (flat_sym (sym_where (demanding d.Truth (own known part)) s.Bool))
    (c.in-Not.is ∙ ap (λ (x : RExpr). re.Not x) (sym c.get-in-Not.ensures)) (own-Not (context_of known) known.queries.now part) c.negated.ensures

pub expr_demands-returns-in_ok-first-in-Cmp : goal.expr_demands-returns-in_ok-first-in-Cmp
expr_demands-returns-in_ok-first-in-Cmp t c =
    let known = c.args.known.now in
    let op = c.in-Cmp.op in
    let left = c.get-in-Cmp.result.now in
    let right = c.get-in-Cmp-2.result.now in
    typed_listed known c.args.demands.now c.expr_demands.new.demands c.compared.new.demands c.compared.result c.args.x.now (re.Cmp op left right) (own known left) c.in_ok-first-in-Cmp.first
    (λ (first : Scheme). flat_sym (sym_where (right_in (context_of known) known.queries.now op first right) s.Bool))
    (c.in-Cmp.is ∙ ap₂ (λ (x : RExpr) (y : RExpr). re.Cmp op x y) (sym c.get-in-Cmp.ensures) (sym c.get-in-Cmp-2.ensures))
    (own-Cmp (context_of known) known.queries.now op left right) c.in_ok-first-in-Cmp.ensures c.compared.ensures

pub expr_demands-returns-in_ok-whole-in-Member : goal.expr_demands-returns-in_ok-whole-in-Member
expr_demands-returns-in_ok-whole-in-Member t c =
    let known = c.args.known.now in
    let left = c.get-in-Member-2.result.now in
    let right = c.get-in-Member.result.now in
    typed_listed known c.args.demands.now c.expr_demands-in-Member.new.demands c.member_of.new.demands c.member_of.result c.args.x.now (re.Member left right) (own known right) c.in_ok-whole-in-Member.whole
    (λ (whole : Scheme). flat_sym (sym_where (same_as (s.Element whole) (own known left)) s.Bool))
    (c.in-Member.is ∙ ap₂ (λ (x : RExpr) (y : RExpr). re.Member x y) (sym c.get-in-Member-2.ensures) (sym c.get-in-Member.ensures))
    (own-Member (context_of known) known.queries.now left right) c.in_ok-whole-in-Member.ensures c.member_of.ensures

pub expr_demands-returns-in_ok-first-in-Chain : goal.expr_demands-returns-in_ok-first-in-Chain
expr_demands-returns-in_ok-first-in-Chain t c =
    let known = c.args.known.now in
    let operand = c.get-in-Chain.result.now in
    let more = c.as_slice-in-Chain.result.now in
    typed_listed known c.args.demands.now c.expr_demands-in-Chain.new.demands c.chained.new.demands c.chained.result c.args.x.now (re.Chain operand more) (own known operand) c.in_ok-first-in-Chain.first
    (λ (first : Scheme). flat_sym (sym_where (further_in (context_of known) known.queries.now first more) first))
    (c.in-Chain.is ∙ ap₂ (λ (x : RExpr) (xs : List ChainPart). re.Chain x xs) (sym c.get-in-Chain.ensures) (sym c.as_slice-in-Chain.ensures))
    (own-Chain (context_of known) known.queries.now operand more) c.in_ok-first-in-Chain.ensures c.chained.ensures

pub tuple-returns : goal.tuple-returns
tuple-returns t c =
    let known = c.args.known.now in
    let syms = syms_in (context_of known) known.queries.now c.args.parts.now in
    tuple_listed known.line c.args.demands.now c.exprs_demands.new.demands c.flat.new.demands syms c.in_ok-schemes.schemes c.in_ok-scheme.scheme (flat_sym (tuple_sym syms)) refl
    c.in_ok-schemes.ensures.0 c.in_ok-schemes.ensures.1 c.in_ok-scheme.ensures.0 c.in_ok-scheme.ensures.1

pub fit_demands-returns-in_ok-same_demands-in_default : goal.fit_demands-returns-in_ok-same_demands-in_default
fit_demands-returns-in_ok-same_demands-in_default t c =
    let known = c.args.known.now in
    c.in_ok-same_demands-in_default.ensures
    ∙ ap (λ (ds : List Demand). c.args.demands.now ++ at_line known.line ds) (sym (fits-others (context_of known) known.queries.now c.args.x.now c.args.asked.now c.in_default.not-Tuple c.in_default.not-SetOf))

pub others_demands-returns-in-empty : goal.others_demands-returns-in-empty
others_demands-returns-in-empty t c =
    let known = c.args.known.now in
    sym (append-nil c.args.demands.now) ∙ ap (λ (ds : List Demand). c.args.demands.now ++ at_line known.line ds) (sym (no_others (context_of known) known.queries.now c.args.asked.now c.args.xs.now c.in-empty.len_below))
