-- Each statement, member, line of `main`, message and class passes at least one token; and the tokens with which they begin.
use Rattle.std.proofs.Common.{◌≡◌, ℕ, zero, suc, Bool, true, false, List, refl, ap, arith}
use Rattle.da_values.specs.declared.token.Mark.{Mark}
use Rattle.da_values.specs.declared.token.Mark.TheVariants as m
use Rattle.da_values.specs.Marks.{Tok}
use Rattle.da_lang.specs.declared.tree.Param.{Param}
use Rattle.da_lang.specs.declared.tree.PatternTree.{PatternTree}
use Rattle.da_lang.specs.declared.tree.Stmt.{Stmt}
use Rattle.da_lang.specs.declared.ty.Ty.{Ty}
use Rattle.da_lang.specs.Spelling.{Spelling, Room, Named}
use Rattle.da_lang.specs.TypeGrammar.{TypeIn}
use Rattle.da_lang.specs.ExprGrammar.{Deeper, IsPattern, deeper}
use Rattle.da_lang.specs.StmtGrammar.{IsBlock, IsBranch, IsElse, IsTimeout, IsStmt, BodyIn}
use Rattle.da_lang.specs.Grammar.{IsParam, IsFrom, IsAt, IsMember, IsCount, IsMline, IsParams, IsMessage, IsClass}
use Rattle.da_phrases.specs.Reader.{mark}
use Rattle.da_parse.specs.Parameters.{IsLooseParam, ParamBy}
use Rattle.da_phrases.proofs.Laws.{Shrinks, Begins, is_next}
use Rattle.da_phrases.proofs.Steps.{mark-Named, shorter-At, shorter-Named, shorter-Number}
use Rattle.da_phrases.proofs.Firsts.{next-At}
use Rattle.da_phrases.proofs.Shorter.{Keeps, shorter-Opens, Separated-shrinks, Closed-shrinks, Behind-keeps, Many-keeps, Ended-shrinks, TypeIn-shrinks, Shrinking, IsExpr-shrinks, IsPattern-shrinks, deeper-shrinks}

-- ---- statements

module _ (room : Room) (deep : Deeper) (shrinking : Shrinking deep) (Body : Spelling (List Stmt)) (body_shrinks : Shrinks Body) where
  pub IsBlock-shrinks : Shrinks (IsBlock room deep Body)
  IsBlock-shrinks _ i r (IsBlock.block h o b) = omega (arith, shorter-At h, shorter-Opens o, body_shrinks _ _ _ b)

  pub IsBranch-shrinks : (word : Mark) → Shrinks (IsBranch room deep Body word)
  IsBranch-shrinks word _ i r (IsBranch.branch h x c b) = omega (arith, shorter-At h, IsExpr-shrinks room deep shrinking _ _ _ x, shorter-At c, IsBlock-shrinks _ _ _ b)

  pub IsElse-keeps : Keeps (IsElse room deep Body)
  IsElse-keeps _ i r IsElse.no_else = omega arith
  IsElse-keeps _ i r (IsElse.otherwise h c b) = omega (arith, shorter-At h, shorter-At c, IsBlock-shrinks _ _ _ b)

  pub IsTimeout-keeps : Keeps (IsTimeout room deep Body)
  IsTimeout-keeps _ i r IsTimeout.no_timeout = omega arith
  IsTimeout-keeps _ i r (IsTimeout.timeout h c b) = omega (arith, shorter-At h, shorter-At c, IsBlock-shrinks _ _ _ b)

  pub IsStmt-shrinks : Shrinks (IsStmt room deep Body)
  IsStmt-shrinks _ i r (IsStmt.assign n h x e) = omega (arith, shorter-Named n, shorter-At h, IsExpr-shrinks room deep shrinking _ _ _ x, shorter-At e)
  IsStmt-shrinks _ i r (IsStmt.add n h k o x c e) = omega (arith, shorter-Named n, shorter-At h, shorter-At k, shorter-Opens o, shrinking.expr _ _ _ x, shorter-At c, shorter-At e)
  IsStmt-shrinks _ i r (IsStmt.remove n h k o x c e) = omega (arith, shorter-Named n, shorter-At h, shorter-At k, shorter-Opens o, shrinking.expr _ _ _ x, shorter-At c, shorter-At e)
  IsStmt-shrinks _ i r (IsStmt.send h x k y e) = omega (arith, shorter-At h, IsExpr-shrinks room deep shrinking _ _ _ x, shorter-At k, IsExpr-shrinks room deep shrinking _ _ _ y, shorter-At e)
  IsStmt-shrinks _ i r (IsStmt.output h o x c e) = omega (arith, shorter-At h, shorter-Opens o, shrinking.expr _ _ _ x, shorter-At c, shorter-At e)
  IsStmt-shrinks _ i r (IsStmt.pass h e) = omega (arith, shorter-At h, shorter-At e)
  IsStmt-shrinks _ i r (IsStmt.label h n e) = omega (arith, shorter-At h, shorter-Named n, shorter-At e)
  IsStmt-shrinks _ i r (IsStmt.call n o l e) = omega (arith, shorter-Named n, shorter-Opens o, Closed-shrinks deep.disj shrinking.disj _ _ _ _ l, shorter-At e)
  IsStmt-shrinks _ i r (IsStmt.conditional b l o) = omega (arith, IsBranch-shrinks _ _ _ _ b, Many-keeps (IsBranch room deep Body m.Elif) (IsBranch-shrinks m.Elif) _ _ _ l, IsElse-keeps _ _ _ o)
  IsStmt-shrinks _ i r (IsStmt.while h x c b) = omega (arith, shorter-At h, IsExpr-shrinks room deep shrinking _ _ _ x, shorter-At c, IsBlock-shrinks _ _ _ b)
  IsStmt-shrinks _ i r (IsStmt.for h n k x c b) = omega (arith, shorter-At h, shorter-Named n, shorter-At k, IsExpr-shrinks room deep shrinking _ _ _ x, shorter-At c, IsBlock-shrinks _ _ _ b)
  IsStmt-shrinks _ i r (IsStmt.await_one h x e) = omega (arith, shorter-At h, IsExpr-shrinks room deep shrinking _ _ _ x, shorter-At e)
  IsStmt-shrinks _ i r (IsStmt.await b l o) = omega (arith, IsBranch-shrinks _ _ _ _ b, Many-keeps (IsBranch room deep Body m.Or) (IsBranch-shrinks m.Or) _ _ _ l, IsTimeout-keeps _ _ _ o)

pub BodyIn-shrinks : (room : ℕ → Room) (f d : ℕ) → Shrinks (BodyIn room f d)
unfolding BodyIn
BodyIn-shrinks room zero d x i r h = absurd h
BodyIn-shrinks room (suc f) d x i r h =
    Ended-shrinks (IsStmt (room d) (deeper room f (suc d)) (BodyIn room f (suc d)))
    (IsStmt-shrinks (room d) (deeper room f (suc d)) (deeper-shrinks room f (suc d)) (BodyIn room f (suc d)) (BodyIn-shrinks room f (suc d))) x i r h

-- a statement begins with one of these
abbrev pub begins_stmt : Mark → Bool
begins_stmt m.Name = true
begins_stmt m.Send = true
begins_stmt m.Output = true
begins_stmt m.Pass = true
begins_stmt m.Dashes = true
begins_stmt m.If = true
begins_stmt m.While = true
begins_stmt m.For = true
begins_stmt m.Await = true
begins_stmt _ = false

-- a statement goes on with one of these, after its blocks so far
abbrev pub goes_on_stmt : Mark → Bool
goes_on_stmt m.Elif = true
goes_on_stmt m.Else = true
goes_on_stmt m.Or = true
goes_on_stmt m.Timeout = true
goes_on_stmt _ = false

pub next_stmt : (k : Mark) → begins_stmt k ≡ true → goes_on_stmt k ≡ false
next_stmt m.Elif h = cc
next_stmt m.Else h = cc
next_stmt m.Or h = cc
next_stmt m.Timeout h = cc
next_stmt _ h = refl

next-Named : (one : Mark → Bool) {b : List ℕ} {i r : List Tok} → Named b i r → is_next one (mark i) ≡ one m.Name
next-Named one h = ap (is_next one) (mark-Named h)

pub IsStmt-begins : (room : Room) (deep : Deeper) (Body : Spelling (List Stmt)) → Begins begins_stmt (IsStmt room deep Body)
IsStmt-begins room deep Body _ i r (IsStmt.assign n h x e) = next-Named begins_stmt n
IsStmt-begins room deep Body _ i r (IsStmt.add n h k o x c e) = next-Named begins_stmt n
IsStmt-begins room deep Body _ i r (IsStmt.remove n h k o x c e) = next-Named begins_stmt n
IsStmt-begins room deep Body _ i r (IsStmt.send h x k y e) = next-At begins_stmt h
IsStmt-begins room deep Body _ i r (IsStmt.output h o x c e) = next-At begins_stmt h
IsStmt-begins room deep Body _ i r (IsStmt.pass h e) = next-At begins_stmt h
IsStmt-begins room deep Body _ i r (IsStmt.label h n e) = next-At begins_stmt h
IsStmt-begins room deep Body _ i r (IsStmt.call n o l e) = next-Named begins_stmt n
IsStmt-begins room deep Body _ i r (IsStmt.conditional (IsBranch.branch h x c b) l o) = next-At begins_stmt h
IsStmt-begins room deep Body _ i r (IsStmt.while h x c b) = next-At begins_stmt h
IsStmt-begins room deep Body _ i r (IsStmt.for h n k x c b) = next-At begins_stmt h
IsStmt-begins room deep Body _ i r (IsStmt.await_one h x e) = next-At begins_stmt h
IsStmt-begins room deep Body _ i r (IsStmt.await (IsBranch.branch h x c b) l o) = next-At begins_stmt h

-- ---- members

pub IsParam-shrinks : (Type_ : Spelling Ty) → Shrinks Type_ → Shrinks (IsParam Type_)
IsParam-shrinks Type_ shrinks _ i r (IsParam.param n c x) = omega (arith, shorter-Named n, shorter-At c, shrinks _ _ _ x)

-- a parameter begins with a name
abbrev pub begins_name : Mark → Bool
begins_name m.Name = true
begins_name _ = false

pub IsLooseParam-shrinks : (Type_ : Spelling Ty) → Shrinks Type_ → Shrinks (IsLooseParam Type_)
IsLooseParam-shrinks Type_ shrinks _ i r (IsLooseParam.written n c x) = omega (arith, shorter-Named n, shorter-At c, shrinks _ _ _ x)
IsLooseParam-shrinks Type_ shrinks _ i r (IsLooseParam.without n) = shorter-Named n

pub ParamBy-shrinks : (loose : Bool) (Type_ : Spelling Ty) → Shrinks Type_ → Shrinks (ParamBy loose Type_)
ParamBy-shrinks false Type_ shrinks = IsParam-shrinks Type_ shrinks
ParamBy-shrinks true Type_ shrinks = IsLooseParam-shrinks Type_ shrinks

pub IsParam-begins : (Type_ : Spelling Ty) → Begins begins_name (IsParam Type_)
IsParam-begins Type_ _ i r (IsParam.param n c x) = next-Named begins_name n

pub IsLooseParam-begins : (Type_ : Spelling Ty) → Begins begins_name (IsLooseParam Type_)
IsLooseParam-begins Type_ _ i r (IsLooseParam.written n c x) = next-Named begins_name n
IsLooseParam-begins Type_ _ i r (IsLooseParam.without n) = next-Named begins_name n

pub Named-shrinks : Shrinks Named
Named-shrinks b i r h = shorter-Named h

IsFrom-keeps : (Pattern : Spelling PatternTree) → Shrinks Pattern → Keeps (IsFrom Pattern)
IsFrom-keeps Pattern shrinks _ i r IsFrom.no_from = omega arith
IsFrom-keeps Pattern shrinks _ i r (IsFrom.from h p) = omega (arith, shorter-At h, shrinks _ _ _ p)

IsAt-keeps : Keeps IsAt
IsAt-keeps _ i r IsAt.no_at = omega arith
IsAt-keeps _ i r (IsAt.labels h l) = omega (arith, shorter-At h, Separated-shrinks Named Named-shrinks _ _ _ _ l)

-- a member begins with one of these
abbrev pub begins_member : Mark → Bool
begins_member m.Var = true
begins_member m.Def = true
begins_member m.Receive = true
begins_member _ = false

module _ (room : Room) (Type_ : Spelling Ty) (Params : Spelling (List Param)) (Pattern : Spelling PatternTree) (Block : Spelling (List Stmt)) where
  pub IsMember-shrinks : Shrinks Type_ → Shrinks Params → Shrinks Pattern → Shrinks Block → Shrinks (IsMember room Type_ Params Pattern Block)
  IsMember-shrinks types params patterns blocks _ i r (IsMember.var h n c x e) = omega (arith, shorter-At h, shorter-Named n, shorter-At c, types _ _ _ x, shorter-At e)
  IsMember-shrinks types params patterns blocks _ i r (IsMember.setup h k o l c b) = omega (arith, shorter-At h, shorter-At k, shorter-Opens o, params _ _ _ l, shorter-At c, blocks _ _ _ b)
  IsMember-shrinks types params patterns blocks _ i r (IsMember.run h k o l c b) = omega (arith, shorter-At h, shorter-At k, shorter-Opens o, shorter-At l, shorter-At c, blocks _ _ _ b)
  IsMember-shrinks types params patterns blocks _ i r (IsMember.method h n o l c b) = omega (arith, shorter-At h, shorter-Named n, shorter-Opens o, params _ _ _ l, shorter-At c, blocks _ _ _ b)
  IsMember-shrinks types params patterns blocks _ i r (IsMember.receive h p f l c b) = omega (arith, shorter-At h, patterns _ _ _ p, IsFrom-keeps Pattern patterns _ _ _ f, IsAt-keeps _ _ _ l, shorter-At c, blocks _ _ _ b)

  pub IsMember-begins : Begins begins_member (IsMember room Type_ Params Pattern Block)
  IsMember-begins _ i r (IsMember.var h n c x e) = next-At begins_member h
  IsMember-begins _ i r (IsMember.setup h k o l c b) = next-At begins_member h
  IsMember-begins _ i r (IsMember.run h k o l c b) = next-At begins_member h
  IsMember-begins _ i r (IsMember.method h n o l c b) = next-At begins_member h
  IsMember-begins _ i r (IsMember.receive h p f l c b) = next-At begins_member h

-- ---- programs

IsCount-keeps : Keeps IsCount
IsCount-keeps _ i r IsCount.no_count = omega arith
IsCount-keeps _ i r (IsCount.count h n) = omega (arith, shorter-At h, shorter-Number n)

-- a line of `main` begins with one of these
abbrev pub begins_line : Mark → Bool
begins_line m.Name = true
begins_line m.Setup = true
begins_line _ = false

module _ (room : Room) (deep : Deeper) where
  pub IsMline-shrinks : Shrinking deep → Shrinks (IsMline room deep)
  IsMline-shrinks shrinking _ i r (IsMline.new n h k o c l p e) = omega (arith, shorter-Named n, shorter-At h, shorter-At k, shorter-Opens o, shorter-Named c, IsCount-keeps _ _ _ l, shorter-At p, shorter-At e)
  IsMline-shrinks shrinking _ i r (IsMline.setup h o n l p e) = omega (arith, shorter-At h, shorter-Opens o, shorter-Named n, Behind-keeps deep.disj shrinking.disj _ _ _ _ l, shorter-At p, shorter-At e)

  pub IsMline-begins : Begins begins_line (IsMline room deep)
  IsMline-begins _ i r (IsMline.new n h k o c l p e) = next-Named begins_line n
  IsMline-begins _ i r (IsMline.setup h o n l p e) = next-At begins_line h

pub IsMessage-shrinks : (room : ℕ → Room) (f : ℕ) → Shrinks (IsMessage room f)
IsMessage-shrinks room f _ i r (IsMessage.message h n o l e) = omega (arith, shorter-At h, shorter-Named n, shorter-Opens o, Closed-shrinks (TypeIn room f 1) (TypeIn-shrinks room f 1) _ _ _ _ l, shorter-At e)

module _ (room : ℕ → Room) (f : ℕ) (Parameter : Spelling Param) (shrinks : Shrinks Parameter) where
  -- what the members of a class pass
  pub member_shrinks : Shrinks (IsMember (room 1) (TypeIn room f 1) (IsParams Parameter) (IsPattern (room 1) (deeper room f 2)) (IsBlock (room 1) (deeper room f 2) (BodyIn room f 2)))
  member_shrinks = IsMember-shrinks (room 1) (TypeIn room f 1) (IsParams Parameter) (IsPattern (room 1) (deeper room f 2)) (IsBlock (room 1) (deeper room f 2) (BodyIn room f 2))
      (TypeIn-shrinks room f 1) (Closed-shrinks Parameter shrinks m.CloseParen)
      (IsPattern-shrinks (room 1) (deeper room f 2) (deeper-shrinks room f 2)) (IsBlock-shrinks (room 1) (deeper room f 2) (deeper-shrinks room f 2) (BodyIn room f 2) (BodyIn-shrinks room f 2))

  pub IsClass-shrinks : Shrinks (IsClass room f Parameter)
  IsClass-shrinks _ i r (IsClass.class h n e p c l o ms) = omega (arith, shorter-At h, shorter-Named n, shorter-At e, shorter-At p, shorter-At c, shorter-At l, shorter-Opens o, Ended-shrinks _ member_shrinks _ _ _ ms)
