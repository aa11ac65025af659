-- What is noted of expressions and patterns that tokens spell is fine.
use Rattle.std.specs.Prelude.{◌≡◌, ℕ, zero, suc, pos, true, false, List, [], ◌∷◌, ◌++◌, map, length, Option, option_map, option_to_list}
use Rattle.std.proofs.Common.{◌∙◌, ap, sym, subst, inl, inr, ⊎_elim, arith}
use Rattle.std.proofs.lemmas.List.{append-nil}
use Rattle.da_values.specs.declared.token.Mark.{Mark}
use Rattle.da_values.specs.declared.token.Mark.TheVariants as m
use Rattle.da_values.specs.declared.value.Value.TheVariants as kept
use Rattle.da_values.specs.Marks.{Tok}
use Rattle.da_values.proofs.Members.{of_append}
use Rattle.da_lang.specs.declared.tree.ArithOp.{ArithOp}
use Rattle.da_lang.specs.declared.tree.ArithOp.TheVariants as arith_op
use Rattle.da_lang.specs.declared.tree.ChainTree.{ChainTree, roll-ChainTree}
use Rattle.da_lang.specs.declared.tree.CmpOp.{CmpOp}
use Rattle.da_lang.specs.declared.tree.Expr.{Expr}
use Rattle.da_lang.specs.declared.tree.Expr.TheVariants as ex
use Rattle.da_lang.specs.declared.tree.GenTree.{GenTree}
use Rattle.da_lang.specs.declared.tree.PatternTree.{PatternTree}
use Rattle.da_lang.specs.declared.tree.PeerTree.{PeerTree}
use Rattle.da_lang.specs.declared.tree.SourceTree.{SourceTree}
use Rattle.da_lang.specs.ExprGrammar.{Deeper, deeper, IsSource, IsPeer, IsGen, IsGens, IsCond, IsAtom, IsUnary, IsTimes, IsPlus, IsOthers, IsChain, IsProd, IsSum, IsCmp, IsComp, IsNeg, IsJoined, IsConj, IsDisj, IsQuant, IsExpr, IsPattern, negated}
use Rattle.da_lang.specs.Spelling.{Spelling, Room}
use Rattle.da_types.specs.Constants.{Literal, Signs, IsFine, all, gen_notes, link_notes, notes, pattern_notes, peer_notes, signs}
use Rattle.da_types.proofs.resolved.NotesAt.{notes-Quant, notes-Or, notes-And, notes-Not, notes-Cmp, notes-Member, notes-Chain, notes-Int, notes-Text, notes-Truth, notes-Me, notes-Name, notes-Clock, notes-Range, notes-Tuple, notes-SetOf, notes-Comp, notes-Count, notes-Sum, notes-Min, notes-Max, pattern_notes-Wild, pattern_notes-Name, pattern_notes-Int, pattern_notes-Text, pattern_notes-Truth, pattern_notes-Me, pattern_notes-Equal, pattern_notes-Tuple, peer_notes-From, peer_notes-To, link_notes-of, gen_notes-of}
use Rattle.da_types.proofs.resolved.NotesKept.{signs-append}
use Rattle.da_types.proofs.written.Says.{Says, EachFine, nothing, token, opener, name_says, both, after, until, less, noted, fine_one, number_says, number_value, negative_says, text_says, truth_says, separated_says, closed_says}

-- a rule whose every spelling says what is noted of it
abbrev pub ExprSays : Spelling Expr → Type 0
ExprSays Rule = (x : Expr) (t r : List Tok) → Rule x t r → Says 1 (notes x) t r

abbrev pub PatternSays : Spelling PatternTree → Type 0
PatternSays Rule = (p : PatternTree) (t r : List Tok) → Rule p t r → Says 1 (pattern_notes p) t r

pub record DeeperSays (deep : Deeper) : Type 0 where
  pub expr : ExprSays deep.expr
  pub disj : ExprSays deep.disj
  pub neg : ExprSays deep.neg
  pub unary : ExprSays deep.unary
  pub pattern : PatternSays deep.pattern

source_says : {x : SourceTree} {t r : List Tok} → IsSource x t r → Says 1 [] t r
source_says (IsSource.received h) = token h
source_says (IsSource.sent h) = token h
source_says (IsSource.name h) = name_says h

times_says : {o : ArithOp} {t r : List Tok} → IsTimes o t r → Says 1 [] t r
times_says (IsTimes.times h) = token h
times_says (IsTimes.div h) = token h
times_says (IsTimes.rem h) = token h

plus_says : {o : ArithOp} {t r : List Tok} → IsPlus o t r → Says 1 [] t r
plus_says (IsPlus.plus h) = token h
plus_says (IsPlus.minus h) = token h

cmp_says : {o : CmpOp} {t r : List Tok} → IsCmp o t r → Says 1 [] t r
cmp_says (IsCmp.eq h) = token h
cmp_says (IsCmp.ne h) = token h
cmp_says (IsCmp.lt h) = token h
cmp_says (IsCmp.le h) = token h
cmp_says (IsCmp.gt h) = token h
cmp_says (IsCmp.ge h) = token h

-- generators and their conditions
module _ (Pattern : Spelling PatternTree) (says : PatternSays Pattern) where
  peer_says : {o : Option PeerTree} {t r : List Tok} → IsPeer Pattern o t r → Says 0 (all (option_to_list (option_map peer_notes o))) t r
  peer_says IsPeer.no_peer = nothing
  peer_says (IsPeer.from h p) = less (omega arith) (after (token h) (noted (append-nil _ ∙ peer_notes-From _) (says _ _ _ p)))
  peer_says (IsPeer.to h p) = less (omega arith) (after (token h) (noted (append-nil _ ∙ peer_notes-To _) (says _ _ _ p)))

  gen_says : {g : GenTree} {t r : List Tok} → IsGen Pattern g t r → Says 1 (gen_notes g) t r
  gen_says (IsGen.gen p o h x) = noted (gen_notes-of _ _ _) (until (until (both (says _ _ _ p) (peer_says o)) (token h)) (source_says x))

  gens_says : {gs : List GenTree} {t r : List Tok} → IsGens Pattern gs t r → Says 1 (all (map gen_notes gs)) t r
  gens_says gs = separated_says gen_notes (IsGen Pattern) (λ g t r h. gen_says h) gs

cond_says : {o : Option Expr} {t r : List Tok} (Condition : Spelling Expr) → ExprSays Condition → IsCond Condition o t r → Says 0 (all (option_to_list (option_map notes o))) t r
cond_says Condition says IsCond.no_cond = nothing
cond_says Condition says (IsCond.bar h x) = less (omega arith) (after (token h) (noted (append-nil _) (says _ _ _ x)))
cond_says Condition says (IsCond.has h x) = less (omega arith) (after (token h) (noted (append-nil _) (says _ _ _ x)))

-- chains: there is a sign for each further operand
module _ (Sign : Spelling ArithOp) (Operand : Spelling Expr) (plain : (o : ArithOp) (t r : List Tok) → Sign o t r → Says 1 [] t r) (says : ExprSays Operand) where
  others_say : {ps : List ChainTree} {t r : List Tok} → IsOthers Sign Operand ps t r → Says (length ps) (all (map link_notes ps)) t r
  others_say IsOthers.no_other = nothing
  others_say (IsOthers.other {o} {x} {ps} sign e more) =
      let first = noted (link_notes-of o x) (says x _ _ e) in
      let rest = others_say more in
      let both_signs = signs-append (link_notes (roll-ChainTree (record { op = o; operand = x }))) (all (map link_notes ps)) in
      record { size = omega (arith, (plain _ _ _ sign).size, first.size, rest.size, both_signs); fine = (both first rest).fine }

  chain_says : ExprSays (IsChain Sign Operand)
  chain_says _ _ _ (IsChain.lone x) = says _ _ _ x
  chain_says _ t r (IsChain.chain {x} {p} {ps} a more) =
      let first = says _ _ _ a in
      let rest = others_say more in
      noted (notes-Chain x (p ∷ ps)) (record {
        size = omega (arith, first.size, rest.size, signs-append (notes x) (all (map link_notes (p ∷ ps))));
        fine = λ n h. ⊎_elim (λ is. subst IsFine (sym is) tt) ((both first rest).fine n) h;
      })

module _ (room : Room) (deep : Deeper) (d : DeeperSays deep) where
  gens : {gs : List GenTree} {t r : List Tok} → IsGens deep.pattern gs t r → Says 1 (all (map gen_notes gs)) t r
  gens gs = gens_says deep.pattern d.pattern gs

  cond' : {o : Option Expr} {t r : List Tok} → IsCond deep.expr o t r → Says 0 (all (option_to_list (option_map notes o))) t r
  cond' b = cond_says deep.expr d.expr b

  atom_says : ExprSays (IsAtom room deep)
  atom_says _ _ _ (IsAtom.int h) = noted (notes-Int _) (number_says h)
  atom_says _ _ _ (IsAtom.text h) = noted (notes-Text _) (text_says h)
  atom_says _ _ _ (IsAtom.yes h) = noted (notes-Truth true) (truth_says true h)
  atom_says _ _ _ (IsAtom.no h) = noted (notes-Truth false) (truth_says false h)
  atom_says _ _ _ (IsAtom.me h) = noted notes-Me (token h)
  atom_says _ _ _ (IsAtom.name h) = noted (notes-Name _) (name_says h)
  atom_says _ _ _ (IsAtom.clock h o c) = noted notes-Clock (after (token h) (after (opener o) (token c)))
  atom_says _ _ _ (IsAtom.range h o x comma y c) = noted (notes-Range _ _) (after (token h) (after (opener o) (until (both (until (d.disj _ _ _ x) (token comma)) (d.disj _ _ _ y)) (token c))))
  atom_says _ _ _ (IsAtom.group o x c) = until (after (opener o) (d.expr _ _ _ x)) (token c)
  atom_says _ _ _ (IsAtom.tuple o x comma xs) = noted (notes-Tuple _) (after (opener o) (both (until (d.disj _ _ _ x) (token comma)) (closed_says notes deep.disj d.disj xs)))
  atom_says _ _ _ (IsAtom.set_of o xs) = noted (notes-SetOf _) (after (opener o) (closed_says notes deep.disj d.disj xs))
  atom_says _ _ _ (IsAtom.comprehension o x colon gs b c) = noted (notes-Comp _ _ _) (after (opener o) (both (until (d.disj _ _ _ x) (token colon)) (until (both (gens gs) (cond' b)) (token c))))
  atom_says _ _ _ (IsAtom.count h o x c) = noted (notes-Count _) (after (token h) (after (opener o) (until (d.disj _ _ _ x) (token c))))
  atom_says _ _ _ (IsAtom.sum h o x c) = noted (notes-Sum _) (after (token h) (after (opener o) (until (d.disj _ _ _ x) (token c))))
  atom_says _ _ _ (IsAtom.min h o x comma y c) = noted (notes-Min _ _) (after (token h) (after (opener o) (until (both (until (d.disj _ _ _ x) (token comma)) (d.disj _ _ _ y)) (token c))))
  atom_says _ _ _ (IsAtom.max h o x comma y c) = noted (notes-Max _ _) (after (token h) (after (opener o) (until (both (until (d.disj _ _ _ x) (token comma)) (d.disj _ _ _ y)) (token c))))

  -- an expression that is taken from 0
  zero_and : (x : Expr) → EachFine (notes x) → EachFine (Signs 1 ∷ (Literal (kept.Int (pos 0)) ∷ []) ++ (notes x ++ []))
  zero_and x fine n (inl is) = subst IsFine (sym is) tt
  zero_and x fine n (inr (inl is)) = fine_one (Literal (kept.Int (pos 0))) (number_value 0 (omega arith)) n (inl is)
  zero_and x fine n (inr (inr h)) = ⊎_elim (fine n) (λ none. absurd none) (of_append (notes x) [] n h)

  negated_notes : (x : Expr) → notes (negated x) ≡ Signs 1 ∷ (Literal (kept.Int (pos 0)) ∷ []) ++ (notes x ++ [])
  negated_notes x = notes-Chain _ _ ∙ ap (λ z. Signs 1 ∷ z ++ (link_notes (roll-ChainTree (record { op = arith_op.Minus; operand = x })) ++ [])) (notes-Int (pos 0)) ∙ ap (λ z. Signs 1 ∷ (Literal (kept.Int (pos 0)) ∷ []) ++ (z ++ [])) (link_notes-of arith_op.Minus x)

  unary_says : ExprSays (IsUnary room deep)
  unary_says _ _ _ (IsUnary.atom x) = atom_says _ _ _ x
  unary_says _ _ _ (IsUnary.negative o n) = noted (notes-Int _) (after (opener o) (negative_says n))
  unary_says _ _ _ (IsUnary.minus {x} o not_number a) =
      let operand = d.unary _ _ _ a in
      noted (negated_notes x) (record { size = omega (arith, (opener o).size, operand.size, ap signs (append-nil (notes x))); fine = zero_and x operand.fine })

  prod_says : ExprSays (IsProd room deep)
  prod_says = chain_says IsTimes (IsUnary room deep) (λ o t r h. times_says h) unary_says

  sum_says : ExprSays (IsSum room deep)
  sum_says = chain_says IsPlus (IsProd room deep) (λ o t r h. plus_says h) prod_says

  comp_says : ExprSays (IsComp room deep)
  comp_says _ _ _ (IsComp.lone x) = sum_says _ _ _ x
  comp_says _ _ _ (IsComp.compared x o y) = noted (notes-Cmp _ _ _) (both (until (sum_says _ _ _ x) (cmp_says o)) (sum_says _ _ _ y))
  comp_says _ _ _ (IsComp.member x h y) = noted (notes-Member _ _) (both (until (sum_says _ _ _ x) (token h)) (sum_says _ _ _ y))

  neg_says : ExprSays (IsNeg room deep)
  neg_says _ _ _ (IsNeg.negation o x) = noted (notes-Not _) (after (opener o) (d.neg _ _ _ x))
  neg_says _ _ _ (IsNeg.comp x) = comp_says _ _ _ x

  joined_says : (k : Mark) (join : List Expr → Expr) → ((xs : List Expr) → notes (join xs) ≡ all (map notes xs)) → (Operand : Spelling Expr) → ExprSays Operand → ExprSays (IsJoined k join Operand)
  joined_says k join is Operand says _ _ _ (IsJoined.lone x) = says _ _ _ x
  joined_says k join is Operand says _ _ _ (IsJoined.joined xs) = noted (is _) (separated_says notes Operand says xs)

  conj_says : ExprSays (IsConj room deep)
  conj_says = joined_says m.And ex.And notes-And (IsNeg room deep) neg_says

  pub disj_says : ExprSays (IsDisj room deep)
  disj_says = joined_says m.Or ex.Or notes-Or (IsConj room deep) conj_says

  quant_says : ExprSays (IsQuant room deep)
  quant_says _ _ _ (IsQuant.«some» o gs b) = noted (notes-Quant _ _ _) (after (opener o) (both (gens gs) (cond' b)))
  quant_says _ _ _ (IsQuant.each o gs b) = noted (notes-Quant _ _ _) (after (opener o) (both (gens gs) (cond' b)))

  pub expr_says : ExprSays (IsExpr room deep)
  expr_says _ _ _ (IsExpr.quant x) = quant_says _ _ _ x
  expr_says _ _ _ (IsExpr.disj x) = disj_says _ _ _ x

  pub pattern_says : PatternSays (IsPattern room deep)
  pattern_says _ _ _ (IsPattern.wild h) = noted pattern_notes-Wild (token h)
  pattern_says _ _ _ (IsPattern.name h) = noted (pattern_notes-Name _) (name_says h)
  pattern_says _ _ _ (IsPattern.int h) = noted (pattern_notes-Int _) (number_says h)
  pattern_says _ _ _ (IsPattern.negative h n) = noted (pattern_notes-Int _) (after (token h) (negative_says n))
  pattern_says _ _ _ (IsPattern.text h) = noted (pattern_notes-Text _) (text_says h)
  pattern_says _ _ _ (IsPattern.yes h) = noted (pattern_notes-Truth true) (truth_says true h)
  pattern_says _ _ _ (IsPattern.no h) = noted (pattern_notes-Truth false) (truth_says false h)
  pattern_says _ _ _ (IsPattern.me h) = noted pattern_notes-Me (token h)
  pattern_says _ _ _ (IsPattern.equal h x) = noted (pattern_notes-Equal _) (after (token h) (unary_says _ _ _ x))
  pattern_says _ _ _ (IsPattern.tuple o p comma ps) = noted (pattern_notes-Tuple _) (after (opener o) (both (until (d.pattern _ _ _ p) (token comma)) (closed_says pattern_notes deep.pattern d.pattern ps)))

-- at each depth
pub deeper_says : (room : ℕ → Room) (f d : ℕ) → DeeperSays (deeper room f d)
unfolding deeper
deeper_says room zero d = record { expr = λ x t r h. absurd h; disj = λ x t r h. absurd h; neg = λ x t r h. absurd h; unary = λ x t r h. absurd h; pattern = λ x t r h. absurd h }
deeper_says room (suc f) d =
    let inner = deeper_says room f (suc d) in
    let deep = deeper room f (suc d) in
    record { expr = expr_says (room d) deep inner; disj = disj_says (room d) deep inner; neg = neg_says (room d) deep inner; unary = unary_says (room d) deep inner; pattern = pattern_says (room d) deep inner }
