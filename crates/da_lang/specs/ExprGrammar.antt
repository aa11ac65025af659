-- The grammar of expressions and patterns, each nonterminal a relation. Every recursion goes through a token that opens
-- one thing more, so each relation takes those that stand one deeper as `deep`.
use Rattle.std.specs.Prelude.{ℕ, zero, suc, pos, neg_ℤ, true, false, List, [], ◌∷◌, Option, Some, None}
use Rattle.da_values.specs.declared.token.Mark.{Mark}
use Rattle.da_values.specs.declared.token.Mark.TheVariants as m
use Rattle.da_values.specs.Marks.{Tok}
use Rattle.da_lang.specs.declared.tree.ArithOp.{ArithOp}
use Rattle.da_lang.specs.declared.tree.ArithOp.TheVariants as arith_op
use Rattle.da_lang.specs.declared.tree.ChainTree.{ChainTree, roll-ChainTree}
use Rattle.da_lang.specs.declared.tree.CmpOp.{CmpOp}
use Rattle.da_lang.specs.declared.tree.CmpOp.TheVariants as cmp_op
use Rattle.da_lang.specs.declared.tree.Expr.{Expr}
use Rattle.da_lang.specs.declared.tree.Expr.TheVariants as ex
use Rattle.da_lang.specs.declared.tree.GenTree.{GenTree, roll-GenTree}
use Rattle.da_lang.specs.declared.tree.PatternTree.{PatternTree}
use Rattle.da_lang.specs.declared.tree.PatternTree.TheVariants as pat
use Rattle.da_lang.specs.declared.tree.PeerTree.{PeerTree}
use Rattle.da_lang.specs.declared.tree.PeerTree.TheVariants as peer_tree
use Rattle.da_lang.specs.declared.tree.SourceTree.{SourceTree}
use Rattle.da_lang.specs.declared.tree.SourceTree.TheVariants as source_tree
use Rattle.da_lang.specs.Spelling.{Spelling, Room, At, Opens, NotAt, Named, Number, Quoted, Separated, Closed}

-- what stands one deeper
pub record Deeper : Type 1 where
  pub expr : Spelling Expr
  pub disj : Spelling Expr
  pub neg : Spelling Expr
  pub unary : Spelling Expr
  pub pattern : Spelling PatternTree

-- "received" | "sent" | NAME
pub data IsSource : SourceTree → List Tok → List Tok → Type 0 where
  received : {t r : List Tok} → At m.Received t r → IsSource source_tree.Received t r
  sent : {t r : List Tok} → At m.Sent t r → IsSource source_tree.Sent t r
  name : {b : List ℕ} {t r : List Tok} → Named b t r → IsSource (source_tree.Name b) t r

-- [ ("from" | "to") pattern ]
pub data IsPeer (Pattern : Spelling PatternTree) : Option PeerTree → List Tok → List Tok → Type 0 where
  no_peer : {t : List Tok} → IsPeer Pattern None t t
  from : {p : PatternTree} {t r s : List Tok} → At m.From t r → Pattern p r s → IsPeer Pattern (Some (peer_tree.From p)) t s
  to : {p : PatternTree} {t r s : List Tok} → At m.To t r → Pattern p r s → IsPeer Pattern (Some (peer_tree.To p)) t s

-- gen
pub data IsGen (Pattern : Spelling PatternTree) : GenTree → List Tok → List Tok → Type 0 where
  gen : {p : PatternTree} {o : Option PeerTree} {x : SourceTree} {t r s q z : List Tok} → Pattern p t r → IsPeer Pattern o r s → At m.In s q → IsSource x q z
      → IsGen Pattern (roll-GenTree (record { message = p; peer = o; source = x })) t z

-- gens
abbrev pub IsGens : Spelling PatternTree → Spelling (List GenTree)
IsGens Pattern = Separated m.Comma (IsGen Pattern)

-- [ ("|" | "has") expr ]
pub data IsCond (Condition : Spelling Expr) : Option Expr → List Tok → List Tok → Type 0 where
  no_cond : {t : List Tok} → IsCond Condition None t t
  bar : {x : Expr} {t r s : List Tok} → At m.Bar t r → Condition x r s → IsCond Condition (Some x) t s
  has : {x : Expr} {t r s : List Tok} → At m.Has t r → Condition x r s → IsCond Condition (Some x) t s

-- atom
pub data IsAtom (room : Room) (deep : Deeper) : Expr → List Tok → List Tok → Type 0 where
  int : {n : ℕ} {t r : List Tok} → Number n t r → IsAtom room deep (ex.Int (pos n)) t r
  text : {b : List ℕ} {t r : List Tok} → Quoted b t r → IsAtom room deep (ex.Text b) t r
  yes : {t r : List Tok} → At m.True t r → IsAtom room deep (ex.Truth true) t r
  no : {t r : List Tok} → At m.False t r → IsAtom room deep (ex.Truth false) t r
  me : {t r : List Tok} → At m.SelfWord t r → IsAtom room deep ex.Me t r
  name : {b : List ℕ} {t r : List Tok} → Named b t r → IsAtom room deep (ex.Name b) t r
  clock : {t r s q : List Tok} → At m.LogicalTime t r → Opens m.OpenParen room r s → At m.CloseParen s q → IsAtom room deep ex.Clock t q
  range : {x y : Expr} {t r s q z a b : List Tok} → At m.Range t r → Opens m.OpenParen room r s → deep.disj x s q → At m.Comma q z → deep.disj y z a → At m.CloseParen a b → IsAtom room deep (ex.Range x y) t b
  group : {x : Expr} {t r s q : List Tok} → Opens m.OpenParen room t r → deep.expr x r s → At m.CloseParen s q → IsAtom room deep x t q
  tuple : {x : Expr} {xs : List Expr} {t r s q z : List Tok} → Opens m.OpenParen room t r → deep.disj x r s → At m.Comma s q → Closed m.CloseParen deep.disj xs q z → IsAtom room deep (ex.Tuple (x ∷ xs)) t z
  set_of : {xs : List Expr} {t r s : List Tok} → Opens m.OpenBrace room t r → Closed m.CloseBrace deep.disj xs r s → IsAtom room deep (ex.SetOf xs) t s
  comprehension : {x : Expr} {gs : List GenTree} {o : Option Expr} {t r s q z a b : List Tok} → Opens m.OpenBrace room t r → deep.disj x r s → At m.Colon s q → IsGens deep.pattern gs q z → IsCond deep.expr o z a → At m.CloseBrace a b
      → IsAtom room deep (ex.Comp x gs o) t b
  count : {x : Expr} {t r s q z : List Tok} → At m.Count t r → Opens m.OpenParen room r s → deep.disj x s q → At m.CloseParen q z → IsAtom room deep (ex.Count x) t z
  sum : {x : Expr} {t r s q z : List Tok} → At m.Sum t r → Opens m.OpenParen room r s → deep.disj x s q → At m.CloseParen q z → IsAtom room deep (ex.Sum x) t z
  min : {x y : Expr} {t r s q z a b : List Tok} → At m.Min t r → Opens m.OpenParen room r s → deep.disj x s q → At m.Comma q z → deep.disj y z a → At m.CloseParen a b → IsAtom room deep (ex.Min x y) t b
  max : {x y : Expr} {t r s q z a b : List Tok} → At m.Max t r → Opens m.OpenParen room r s → deep.disj x s q → At m.Comma q z → deep.disj y z a → At m.CloseParen a b → IsAtom room deep (ex.Max x y) t b

-- an expression taken from 0
abbrev pub negated : Expr → Expr
negated x = ex.Chain (ex.Int (pos 0)) (roll-ChainTree (record { op = arith_op.Minus; operand = x }) ∷ [])

-- unary
pub data IsUnary (room : Room) (deep : Deeper) : Expr → List Tok → List Tok → Type 0 where
  atom : {x : Expr} {t r : List Tok} → IsAtom room deep x t r → IsUnary room deep x t r
  negative : {n : ℕ} {t r s : List Tok} → Opens m.Minus room t r → Number n r s → IsUnary room deep (ex.Int (neg_ℤ (pos n))) t s
  minus : {x : Expr} {t r s : List Tok} → Opens m.Minus room t r → NotAt m.Number r → deep.unary x r s → IsUnary room deep (negated x) t s

-- "*" | "//" | "%"
pub data IsTimes : ArithOp → List Tok → List Tok → Type 0 where
  times : {t r : List Tok} → At m.Star t r → IsTimes arith_op.Times t r
  div : {t r : List Tok} → At m.Slashes t r → IsTimes arith_op.Div t r
  rem : {t r : List Tok} → At m.Percent t r → IsTimes arith_op.Mod t r

-- "+" | "-"
pub data IsPlus : ArithOp → List Tok → List Tok → Type 0 where
  plus : {t r : List Tok} → At m.Plus t r → IsPlus arith_op.Plus t r
  minus : {t r : List Tok} → At m.Minus t r → IsPlus arith_op.Minus t r

-- { sign operand }
pub data IsOthers (Sign : Spelling ArithOp) (Operand : Spelling Expr) : List ChainTree → List Tok → List Tok → Type 0 where
  no_other : {t : List Tok} → IsOthers Sign Operand [] t t
  other : {o : ArithOp} {x : Expr} {ps : List ChainTree} {t r s q : List Tok} → Sign o t r → Operand x r s → IsOthers Sign Operand ps s q
      → IsOthers Sign Operand (roll-ChainTree (record { op = o; operand = x }) ∷ ps) t q

-- operand { sign operand }
pub data IsChain (Sign : Spelling ArithOp) (Operand : Spelling Expr) : Expr → List Tok → List Tok → Type 0 where
  lone : {x : Expr} {t r : List Tok} → Operand x t r → IsChain Sign Operand x t r
  chain : {x : Expr} {p : ChainTree} {ps : List ChainTree} {t r s : List Tok} → Operand x t r → IsOthers Sign Operand (p ∷ ps) r s → IsChain Sign Operand (ex.Chain x (p ∷ ps)) t s

-- prod
abbrev pub IsProd : Room → Deeper → Spelling Expr
IsProd room deep = IsChain IsTimes (IsUnary room deep)

-- sum
abbrev pub IsSum : Room → Deeper → Spelling Expr
IsSum room deep = IsChain IsPlus (IsProd room deep)

-- "==" | "!=" | "<" | "<=" | ">" | ">="
pub data IsCmp : CmpOp → List Tok → List Tok → Type 0 where
  eq : {t r : List Tok} → At m.Equal t r → IsCmp cmp_op.Eq t r
  ne : {t r : List Tok} → At m.NotEqual t r → IsCmp cmp_op.Ne t r
  lt : {t r : List Tok} → At m.Less t r → IsCmp cmp_op.Lt t r
  le : {t r : List Tok} → At m.LessEqual t r → IsCmp cmp_op.Le t r
  gt : {t r : List Tok} → At m.Greater t r → IsCmp cmp_op.Gt t r
  ge : {t r : List Tok} → At m.GreaterEqual t r → IsCmp cmp_op.Ge t r

-- comp
pub data IsComp (room : Room) (deep : Deeper) : Expr → List Tok → List Tok → Type 0 where
  lone : {x : Expr} {t r : List Tok} → IsSum room deep x t r → IsComp room deep x t r
  compared : {o : CmpOp} {x y : Expr} {t r s q : List Tok} → IsSum room deep x t r → IsCmp o r s → IsSum room deep y s q → IsComp room deep (ex.Cmp o x y) t q
  member : {x y : Expr} {t r s q : List Tok} → IsSum room deep x t r → At m.In r s → IsSum room deep y s q → IsComp room deep (ex.Member x y) t q

-- neg
pub data IsNeg (room : Room) (deep : Deeper) : Expr → List Tok → List Tok → Type 0 where
  negation : {x : Expr} {t r s : List Tok} → Opens m.Not room t r → deep.neg x r s → IsNeg room deep (ex.Not x) t s
  comp : {x : Expr} {t r : List Tok} → IsComp room deep x t r → IsNeg room deep x t r

-- operand { word operand }
pub data IsJoined (k : Mark) (join : List Expr → Expr) (Operand : Spelling Expr) : Expr → List Tok → List Tok → Type 0 where
  lone : {x : Expr} {t r : List Tok} → Operand x t r → IsJoined k join Operand x t r
  joined : {x y : Expr} {ys : List Expr} {t r : List Tok} → Separated k Operand (x ∷ y ∷ ys) t r → IsJoined k join Operand (join (x ∷ y ∷ ys)) t r

-- conj
abbrev pub IsConj : Room → Deeper → Spelling Expr
IsConj room deep = IsJoined m.And ex.And (IsNeg room deep)

-- disj
abbrev pub IsDisj : Room → Deeper → Spelling Expr
IsDisj room deep = IsJoined m.Or ex.Or (IsConj room deep)

-- quant
pub data IsQuant (room : Room) (deep : Deeper) : Expr → List Tok → List Tok → Type 0 where
  «some» : {gs : List GenTree} {o : Option Expr} {t r s q : List Tok} → Opens m.Some room t r → IsGens deep.pattern gs r s → IsCond deep.expr o s q → IsQuant room deep (ex.Quant false gs o) t q
  each : {gs : List GenTree} {o : Option Expr} {t r s q : List Tok} → Opens m.Each room t r → IsGens deep.pattern gs r s → IsCond deep.expr o s q → IsQuant room deep (ex.Quant true gs o) t q

-- expr
pub data IsExpr (room : Room) (deep : Deeper) : Expr → List Tok → List Tok → Type 0 where
  quant : {x : Expr} {t r : List Tok} → IsQuant room deep x t r → IsExpr room deep x t r
  disj : {x : Expr} {t r : List Tok} → IsDisj room deep x t r → IsExpr room deep x t r

-- pattern
pub data IsPattern (room : Room) (deep : Deeper) : PatternTree → List Tok → List Tok → Type 0 where
  wild : {t r : List Tok} → At m.Wild t r → IsPattern room deep pat.Wild t r
  name : {b : List ℕ} {t r : List Tok} → Named b t r → IsPattern room deep (pat.Name b) t r
  int : {n : ℕ} {t r : List Tok} → Number n t r → IsPattern room deep (pat.Int (pos n)) t r
  negative : {n : ℕ} {t r s : List Tok} → At m.Minus t r → Number n r s → IsPattern room deep (pat.Int (neg_ℤ (pos n))) t s
  text : {b : List ℕ} {t r : List Tok} → Quoted b t r → IsPattern room deep (pat.Text b) t r
  yes : {t r : List Tok} → At m.True t r → IsPattern room deep (pat.Truth true) t r
  no : {t r : List Tok} → At m.False t r → IsPattern room deep (pat.Truth false) t r
  me : {t r : List Tok} → At m.SelfWord t r → IsPattern room deep pat.Me t r
  equal : {x : Expr} {t r s : List Tok} → At m.Assign t r → IsUnary room deep x r s → IsPattern room deep (pat.Equal x) t s
  tuple : {p : PatternTree} {ps : List PatternTree} {t r s q z : List Tok} → Opens m.OpenParen room t r → deep.pattern p r s → At m.Comma s q → Closed m.CloseParen deep.pattern ps q z → IsPattern room deep (pat.Tuple (p ∷ ps)) t z

-- what stands where d things are open; the first number bounds how many more there are
unfoldable pub deeper : (ℕ → Room) → ℕ → ℕ → Deeper
deeper room zero d = record { expr = λ _ _ _. ⊥; disj = λ _ _ _. ⊥; neg = λ _ _ _. ⊥; unary = λ _ _ _. ⊥; pattern = λ _ _ _. ⊥ }
deeper room (suc f) d = record {
  expr = IsExpr (room d) (deeper room f (suc d));
  disj = IsDisj (room d) (deeper room f (suc d));
  neg = IsNeg (room d) (deeper room f (suc d));
  unary = IsUnary (room d) (deeper room f (suc d));
  pattern = IsPattern (room d) (deeper room f (suc d));
}
