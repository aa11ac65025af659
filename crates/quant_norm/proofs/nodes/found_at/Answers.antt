use Rattle.std.proofs.Common.{◌≡◌, ◌∙◌, ap, arith, length, refl, sym}
use Rattle.std.proofs.lemmas.List.{length-map}
use Rattle.quant_norm.specs.Prints.{node_print}
use Rattle.quant_norm.proofs.PrintLaws.{found_here, found_none, print_at, searches_on}
use Rattle.quant_norm.proofs.nodes.found_at.Goals as goal

pub loop-place-init : goal.loop-place-init
loop-place-init c = refl

pub bounds-prints-place : goal.bounds-prints-place
bounds-prints-place c =
    let many : length c.args.prints.now ≡ length c.args.nodes.now = ap length c.requires.prints ∙ length-map c.args.nodes.now node_print in
    omega (arith, many, c.loop-place-test.true)

pub is_same-requires-clause-its : goal.is_same-requires-clause-its
is_same-requires-clause-its c =
    print_at c.args.prints.now c.args.nodes.now c.loop-place.place c.index-nodes-place.result c.requires.prints c.loop-place-test.true c.index-nodes-place.is

pub returns-then-is_same : goal.returns-then-is_same
returns-then-is_same c =
    found_here c.args.node.now c.args.nodes.now c.loop-place.place c.loop-place.invariant c.index-nodes-place.result c.loop-place-test.true c.index-nodes-place.is
    (sym c.is_same.ensures ∙ c.if-is_same.true)

pub loop-place-preserved : goal.loop-place-preserved
loop-place-preserved c =
    searches_on c.args.node.now c.args.nodes.now c.loop-place.place c.loop-place.invariant c.index-nodes-place.result c.loop-place-test.true c.index-nodes-place.is
    (sym c.is_same.ensures ∙ c.if-is_same.false)

pub returns : goal.returns
returns c = found_none c.args.node.now c.args.nodes.now c.loop-place.place c.loop-place.invariant c.loop-place-test.false
