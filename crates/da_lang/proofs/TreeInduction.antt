-- What holds of an expression, a pattern or a generator of a tree where it holds of its parts holds of every one.
use Rattle.std.specs.Prelude.{ℕ, ℤ, Bool, List, Option, Some, None}
use Rattle.std.specs.List.{AllByRecursion}
use Rattle.std.proofs.Common.{subst, sym}
use Rattle.da_lang.specs.declared.tree.ArithOp.{ArithOp}
use Rattle.da_lang.specs.declared.tree.ChainTree.{ChainTree, roll-ChainTree}
use Rattle.da_lang.specs.declared.tree.CmpOp.{CmpOp}
use Rattle.da_lang.specs.declared.tree.Expr.{Expr, roll-Expr}
use Rattle.da_lang.specs.declared.tree.Expr.TheVariants as ex
use Rattle.da_lang.specs.declared.tree.Expr.TheOpen.{Expr-F, PatternTree-F, PeerTree-F, ChainTree-F, GenTree-F}
use Rattle.da_lang.specs.declared.tree.Expr.TheFolds.{ind-Expr, ind-PatternTree, ind-PeerTree, ind-ChainTree, ind-GenTree, map-Expr, map-PatternTree, map-PeerTree, map-ChainTree, map-GenTree}
use Rattle.da_lang.specs.declared.tree.GenTree.{GenTree, roll-GenTree}
use Rattle.da_lang.specs.declared.tree.PatternTree.{PatternTree, roll-PatternTree}
use Rattle.da_lang.specs.declared.tree.PatternTree.TheVariants as pattern
use Rattle.da_lang.specs.declared.tree.PeerTree.{PeerTree, roll-PeerTree}
use Rattle.da_lang.specs.declared.tree.PeerTree.TheVariants as peer
use Rattle.da_lang.specs.declared.tree.SourceTree.{SourceTree}
use Rattle.da_lang.proofs.CondInduction.{Where}
use Rattle.da_lang.proofs.TermInduction.{bare, all_of-bare}

-- what is to be shown of each kind, and its cases
pub record Cases : Type 1 where
  pub Of_expr : Expr → Type 0
  pub Of_pattern : PatternTree → Type 0
  pub Of_peer : PeerTree → Type 0
  pub Of_link : ChainTree → Type 0
  pub Of_gen : GenTree → Type 0
  pub quant : (each : Bool) (gens : List GenTree) (cond : Option Expr) → AllByRecursion Of_gen gens → Where Of_expr cond → Of_expr (ex.Quant each gens cond)
  pub either : (xs : List Expr) → AllByRecursion Of_expr xs → Of_expr (ex.Or xs)
  pub both : (xs : List Expr) → AllByRecursion Of_expr xs → Of_expr (ex.And xs)
  pub negation : (x : Expr) → Of_expr x → Of_expr (ex.Not x)
  pub comparison : (o : CmpOp) (x : Expr) (y : Expr) → Of_expr x → Of_expr y → Of_expr (ex.Cmp o x y)
  pub member : (x : Expr) (y : Expr) → Of_expr x → Of_expr y → Of_expr (ex.Member x y)
  pub chain : (x : Expr) (more : List ChainTree) → Of_expr x → AllByRecursion Of_link more → Of_expr (ex.Chain x more)
  pub number : (number : ℤ) → Of_expr (ex.Int number)
  pub text : (bytes : List ℕ) → Of_expr (ex.Text bytes)
  pub truth : (truth : Bool) → Of_expr (ex.Truth truth)
  pub me : Of_expr ex.Me
  pub name : (name : List ℕ) → Of_expr (ex.Name name)
  pub clock : Of_expr ex.Clock
  pub range : (x : Expr) (y : Expr) → Of_expr x → Of_expr y → Of_expr (ex.Range x y)
  pub tuple : (xs : List Expr) → AllByRecursion Of_expr xs → Of_expr (ex.Tuple xs)
  pub set_of : (xs : List Expr) → AllByRecursion Of_expr xs → Of_expr (ex.SetOf xs)
  pub comprehension : (x : Expr) (gens : List GenTree) (cond : Option Expr) → Of_expr x → AllByRecursion Of_gen gens → Where Of_expr cond → Of_expr (ex.Comp x gens cond)
  pub count : (x : Expr) → Of_expr x → Of_expr (ex.Count x)
  pub sum : (x : Expr) → Of_expr x → Of_expr (ex.Sum x)
  pub least : (x : Expr) (other : Expr) → Of_expr x → Of_expr other → Of_expr (ex.Min x other)
  pub greatest : (x : Expr) (other : Expr) → Of_expr x → Of_expr other → Of_expr (ex.Max x other)
  pub any : Of_pattern pattern.Wild
  pub variable : (name : List ℕ) → Of_pattern (pattern.Name name)
  pub number_pattern : (number : ℤ) → Of_pattern (pattern.Int number)
  pub text_pattern : (bytes : List ℕ) → Of_pattern (pattern.Text bytes)
  pub truth_pattern : (truth : Bool) → Of_pattern (pattern.Truth truth)
  pub me_pattern : Of_pattern pattern.Me
  pub equal : (x : Expr) → Of_expr x → Of_pattern (pattern.Equal x)
  pub tuple_pattern : (ps : List PatternTree) → AllByRecursion Of_pattern ps → Of_pattern (pattern.Tuple ps)
  pub from : (p : PatternTree) → Of_pattern p → Of_peer (peer.From p)
  pub to : (p : PatternTree) → Of_pattern p → Of_peer (peer.To p)
  pub link : (op_ : ArithOp) (operand_ : Expr) → Of_expr operand_ → Of_link (roll-ChainTree (record { op = op_; operand = operand_ }))
  pub generator : (message_ : PatternTree) (peer_ : Option PeerTree) (source_ : SourceTree) → Of_pattern message_ → Where Of_peer peer_ → Of_gen (roll-GenTree (record { message = message_; peer = peer_; source = source_ }))

module _ (c : Cases) where
  abbrev AtExpr : Type 0
  AtExpr = (x : Expr) × c.Of_expr x

  abbrev AtPatternTree : Type 0
  AtPatternTree = (x : PatternTree) × c.Of_pattern x

  abbrev AtPeerTree : Type 0
  AtPeerTree = (x : PeerTree) × c.Of_peer x

  abbrev AtChainTree : Type 0
  AtChainTree = (x : ChainTree) × c.Of_link x

  abbrev AtGenTree : Type 0
  AtGenTree = (x : GenTree) × c.Of_gen x

  expr_case : (y : Expr-F AtExpr AtPatternTree AtPeerTree AtChainTree AtGenTree) → c.Of_expr (roll-Expr (map-Expr AtExpr AtPatternTree AtPeerTree AtChainTree AtGenTree Expr PatternTree PeerTree ChainTree GenTree (λ e. e.0) (λ e. e.0) (λ e. e.0) (λ e. e.0) (λ e. e.0) y))
  expr_case (Expr-F.Quant each gens None) = subst c.Of_expr (sym (ex.rolls-Quant each (bare gens) None)) (c.quant each (bare gens) None (all_of-bare c.Of_gen gens) tt)
  expr_case (Expr-F.Quant each gens (Some cond)) = subst c.Of_expr (sym (ex.rolls-Quant each (bare gens) (Some cond.0))) (c.quant each (bare gens) (Some cond.0) (all_of-bare c.Of_gen gens) cond.1)
  expr_case (Expr-F.Or xs) = subst c.Of_expr (sym (ex.rolls-Or (bare xs))) (c.either (bare xs) (all_of-bare c.Of_expr xs))
  expr_case (Expr-F.And xs) = subst c.Of_expr (sym (ex.rolls-And (bare xs))) (c.both (bare xs) (all_of-bare c.Of_expr xs))
  expr_case (Expr-F.Not x) = subst c.Of_expr (sym (ex.rolls-Not x.0)) (c.negation x.0 x.1)
  expr_case (Expr-F.Cmp o x y) = subst c.Of_expr (sym (ex.rolls-Cmp o x.0 y.0)) (c.comparison o x.0 y.0 x.1 y.1)
  expr_case (Expr-F.Member x y) = subst c.Of_expr (sym (ex.rolls-Member x.0 y.0)) (c.member x.0 y.0 x.1 y.1)
  expr_case (Expr-F.Chain x more) = subst c.Of_expr (sym (ex.rolls-Chain x.0 (bare more))) (c.chain x.0 (bare more) x.1 (all_of-bare c.Of_link more))
  expr_case (Expr-F.«Expr::Int» number) = subst c.Of_expr (sym (ex.rolls-Int number)) (c.number number)
  expr_case (Expr-F.«Expr::Text» bytes) = subst c.Of_expr (sym (ex.rolls-Text bytes)) (c.text bytes)
  expr_case (Expr-F.«Expr::Truth» truth) = subst c.Of_expr (sym (ex.rolls-Truth truth)) (c.truth truth)
  expr_case Expr-F.«Expr::Me» = subst c.Of_expr (sym ex.rolls-Me) c.me
  expr_case (Expr-F.«Expr::Name» name) = subst c.Of_expr (sym (ex.rolls-Name name)) (c.name name)
  expr_case Expr-F.Clock = subst c.Of_expr (sym ex.rolls-Clock) c.clock
  expr_case (Expr-F.Range x y) = subst c.Of_expr (sym (ex.rolls-Range x.0 y.0)) (c.range x.0 y.0 x.1 y.1)
  expr_case (Expr-F.«Expr::Tuple» xs) = subst c.Of_expr (sym (ex.rolls-Tuple (bare xs))) (c.tuple (bare xs) (all_of-bare c.Of_expr xs))
  expr_case (Expr-F.SetOf xs) = subst c.Of_expr (sym (ex.rolls-SetOf (bare xs))) (c.set_of (bare xs) (all_of-bare c.Of_expr xs))
  expr_case (Expr-F.Comp x gens None) = subst c.Of_expr (sym (ex.rolls-Comp x.0 (bare gens) None)) (c.comprehension x.0 (bare gens) None x.1 (all_of-bare c.Of_gen gens) tt)
  expr_case (Expr-F.Comp x gens (Some cond)) = subst c.Of_expr (sym (ex.rolls-Comp x.0 (bare gens) (Some cond.0))) (c.comprehension x.0 (bare gens) (Some cond.0) x.1 (all_of-bare c.Of_gen gens) cond.1)
  expr_case (Expr-F.Count x) = subst c.Of_expr (sym (ex.rolls-Count x.0)) (c.count x.0 x.1)
  expr_case (Expr-F.Sum x) = subst c.Of_expr (sym (ex.rolls-Sum x.0)) (c.sum x.0 x.1)
  expr_case (Expr-F.Min x other) = subst c.Of_expr (sym (ex.rolls-Min x.0 other.0)) (c.least x.0 other.0 x.1 other.1)
  expr_case (Expr-F.Max x other) = subst c.Of_expr (sym (ex.rolls-Max x.0 other.0)) (c.greatest x.0 other.0 x.1 other.1)

  patterntree_case : (y : PatternTree-F AtExpr AtPatternTree AtPeerTree AtChainTree AtGenTree) → c.Of_pattern (roll-PatternTree (map-PatternTree AtExpr AtPatternTree AtPeerTree AtChainTree AtGenTree Expr PatternTree PeerTree ChainTree GenTree (λ e. e.0) (λ e. e.0) (λ e. e.0) (λ e. e.0) (λ e. e.0) y))
  patterntree_case PatternTree-F.Wild = subst c.Of_pattern (sym pattern.rolls-Wild) c.any
  patterntree_case (PatternTree-F.«PatternTree::Name» name) = subst c.Of_pattern (sym (pattern.rolls-Name name)) (c.variable name)
  patterntree_case (PatternTree-F.«PatternTree::Int» number) = subst c.Of_pattern (sym (pattern.rolls-Int number)) (c.number_pattern number)
  patterntree_case (PatternTree-F.«PatternTree::Text» bytes) = subst c.Of_pattern (sym (pattern.rolls-Text bytes)) (c.text_pattern bytes)
  patterntree_case (PatternTree-F.«PatternTree::Truth» truth) = subst c.Of_pattern (sym (pattern.rolls-Truth truth)) (c.truth_pattern truth)
  patterntree_case PatternTree-F.«PatternTree::Me» = subst c.Of_pattern (sym pattern.rolls-Me) c.me_pattern
  patterntree_case (PatternTree-F.Equal x) = subst c.Of_pattern (sym (pattern.rolls-Equal x.0)) (c.equal x.0 x.1)
  patterntree_case (PatternTree-F.«PatternTree::Tuple» ps) = subst c.Of_pattern (sym (pattern.rolls-Tuple (bare ps))) (c.tuple_pattern (bare ps) (all_of-bare c.Of_pattern ps))

  peertree_case : (y : PeerTree-F AtExpr AtPatternTree AtPeerTree AtChainTree AtGenTree) → c.Of_peer (roll-PeerTree (map-PeerTree AtExpr AtPatternTree AtPeerTree AtChainTree AtGenTree Expr PatternTree PeerTree ChainTree GenTree (λ e. e.0) (λ e. e.0) (λ e. e.0) (λ e. e.0) (λ e. e.0) y))
  peertree_case (PeerTree-F.From p) = subst c.Of_peer (sym (peer.rolls-From p.0)) (c.from p.0 p.1)
  peertree_case (PeerTree-F.To p) = subst c.Of_peer (sym (peer.rolls-To p.0)) (c.to p.0 p.1)

  chaintree_case_of : (op_ : ArithOp) (operand_ : AtExpr) → c.Of_link (roll-ChainTree (map-ChainTree AtExpr AtPatternTree AtPeerTree AtChainTree AtGenTree Expr PatternTree PeerTree ChainTree GenTree (λ e. e.0) (λ e. e.0) (λ e. e.0) (λ e. e.0) (λ e. e.0) (record { op = op_; operand = operand_ })))
  chaintree_case_of op_ operand_ = c.link op_ operand_.0 operand_.1

  chaintree_case : (y : ChainTree-F AtExpr AtPatternTree AtPeerTree AtChainTree AtGenTree) → c.Of_link (roll-ChainTree (map-ChainTree AtExpr AtPatternTree AtPeerTree AtChainTree AtGenTree Expr PatternTree PeerTree ChainTree GenTree (λ e. e.0) (λ e. e.0) (λ e. e.0) (λ e. e.0) (λ e. e.0) y))
  chaintree_case y = chaintree_case_of y.op y.operand

  gentree_case_of : (message_ : AtPatternTree) (peer_ : Option AtPeerTree) (source_ : SourceTree) → c.Of_gen (roll-GenTree (map-GenTree AtExpr AtPatternTree AtPeerTree AtChainTree AtGenTree Expr PatternTree PeerTree ChainTree GenTree (λ e. e.0) (λ e. e.0) (λ e. e.0) (λ e. e.0) (λ e. e.0) (record { message = message_; peer = peer_; source = source_ })))
  gentree_case_of message_ None source_ = c.generator message_.0 None source_ message_.1 tt
  gentree_case_of message_ (Some peer_) source_ = c.generator message_.0 (Some peer_.0) source_ message_.1 peer_.1

  gentree_case : (y : GenTree-F AtExpr AtPatternTree AtPeerTree AtChainTree AtGenTree) → c.Of_gen (roll-GenTree (map-GenTree AtExpr AtPatternTree AtPeerTree AtChainTree AtGenTree Expr PatternTree PeerTree ChainTree GenTree (λ e. e.0) (λ e. e.0) (λ e. e.0) (λ e. e.0) (λ e. e.0) y))
  gentree_case y = gentree_case_of y.message y.peer y.source

  pub expr_induction : (x : Expr) → c.Of_expr x
  expr_induction = ind-Expr c.Of_expr c.Of_pattern c.Of_peer c.Of_link c.Of_gen (λ x y is. subst (λ z. c.Of_expr (roll-Expr z)) is (expr_case y)) (λ x y is. subst (λ z. c.Of_pattern (roll-PatternTree z)) is (patterntree_case y)) (λ x y is. subst (λ z. c.Of_peer (roll-PeerTree z)) is (peertree_case y)) (λ x y is. subst (λ z. c.Of_link (roll-ChainTree z)) is (chaintree_case y)) (λ x y is. subst (λ z. c.Of_gen (roll-GenTree z)) is (gentree_case y))

  pub pattern_induction : (x : PatternTree) → c.Of_pattern x
  pattern_induction = ind-PatternTree c.Of_expr c.Of_pattern c.Of_peer c.Of_link c.Of_gen (λ x y is. subst (λ z. c.Of_expr (roll-Expr z)) is (expr_case y)) (λ x y is. subst (λ z. c.Of_pattern (roll-PatternTree z)) is (patterntree_case y)) (λ x y is. subst (λ z. c.Of_peer (roll-PeerTree z)) is (peertree_case y)) (λ x y is. subst (λ z. c.Of_link (roll-ChainTree z)) is (chaintree_case y)) (λ x y is. subst (λ z. c.Of_gen (roll-GenTree z)) is (gentree_case y))

  pub peer_induction : (x : PeerTree) → c.Of_peer x
  peer_induction = ind-PeerTree c.Of_expr c.Of_pattern c.Of_peer c.Of_link c.Of_gen (λ x y is. subst (λ z. c.Of_expr (roll-Expr z)) is (expr_case y)) (λ x y is. subst (λ z. c.Of_pattern (roll-PatternTree z)) is (patterntree_case y)) (λ x y is. subst (λ z. c.Of_peer (roll-PeerTree z)) is (peertree_case y)) (λ x y is. subst (λ z. c.Of_link (roll-ChainTree z)) is (chaintree_case y)) (λ x y is. subst (λ z. c.Of_gen (roll-GenTree z)) is (gentree_case y))

  pub link_induction : (x : ChainTree) → c.Of_link x
  link_induction = ind-ChainTree c.Of_expr c.Of_pattern c.Of_peer c.Of_link c.Of_gen (λ x y is. subst (λ z. c.Of_expr (roll-Expr z)) is (expr_case y)) (λ x y is. subst (λ z. c.Of_pattern (roll-PatternTree z)) is (patterntree_case y)) (λ x y is. subst (λ z. c.Of_peer (roll-PeerTree z)) is (peertree_case y)) (λ x y is. subst (λ z. c.Of_link (roll-ChainTree z)) is (chaintree_case y)) (λ x y is. subst (λ z. c.Of_gen (roll-GenTree z)) is (gentree_case y))

  pub gen_induction : (x : GenTree) → c.Of_gen x
  gen_induction = ind-GenTree c.Of_expr c.Of_pattern c.Of_peer c.Of_link c.Of_gen (λ x y is. subst (λ z. c.Of_expr (roll-Expr z)) is (expr_case y)) (λ x y is. subst (λ z. c.Of_pattern (roll-PatternTree z)) is (patterntree_case y)) (λ x y is. subst (λ z. c.Of_peer (roll-PeerTree z)) is (peertree_case y)) (λ x y is. subst (λ z. c.Of_link (roll-ChainTree z)) is (chaintree_case y)) (λ x y is. subst (λ z. c.Of_gen (roll-GenTree z)) is (gentree_case y))
