-- The reader of whole programs by a rule of how many things may be open: what is shown of a place where it stops.
use Rattle.std.proofs.Common.{◌≡◌, ℕ, zero, suc, ◌+◌, ◌-◌, ◌≤◌, ◌<◌, Bool, true, List, [], ◌∷◌, ◌++◌, length, Ok, refl, sym, ap, ◌∙◌, subst, arith}
use Rattle.std.specs.Prelude.{nat_lt}
use Rattle.da_values.specs.declared.token.Mark.{Mark}
use Rattle.da_values.specs.declared.token.Mark.TheVariants as m
use Rattle.da_values.specs.Marks.{Tok}
use Rattle.da_lang.specs.declared.tree.ClassTree.{ClassTree}
use Rattle.da_lang.specs.declared.tree.Expr.{Expr}
use Rattle.da_lang.specs.declared.tree.MainLine.{MainLine}
use Rattle.da_lang.specs.declared.tree.Member.{Member}
use Rattle.da_lang.specs.declared.tree.MessageDecl.{MessageDecl}
use Rattle.da_lang.specs.declared.tree.Param.{Param}
use Rattle.da_lang.specs.declared.tree.PatternTree.{PatternTree}
use Rattle.da_lang.specs.declared.tree.Stmt.{Stmt}
use Rattle.da_lang.specs.declared.tree.Tree.{Tree}
use Rattle.da_lang.specs.declared.ty.Ty.{Ty}
use Rattle.da_lang.specs.Spelling.{Spelling, Room, At, at, Ended}
use Rattle.da_lang.specs.TypeGrammar.{TypeIn}
use Rattle.da_lang.specs.ExprGrammar.{IsPattern, deeper}
use Rattle.da_lang.specs.StmtGrammar.{IsBlock, BodyIn}
use Rattle.da_lang.specs.Grammar.{IsMember, IsMline, IsParams}
use Rattle.da_phrases.specs.declared.place.Level.TheVariants as level
use Rattle.da_phrases.specs.Reader.{Reader}
use Rattle.da_phrases.specs.Place.{Limit, Place}
use Rattle.da_phrases.specs.Types.{types, type_in}
use Rattle.da_phrases.specs.Exprs.{place, pattern}
use Rattle.da_parse.specs.Stmts.{bodies, block_after_colon}
use Rattle.da_parse.specs.Parameters.{ParameterBy, IsProgramBy}
use Rattle.da_parse.specs.Members.{Parts, param_by, parts_in, member, members}
use Rattle.da_parse.specs.Programs.{Outer, outer_in, outer_by, message, class, main_line, main, program}
use Rattle.da_phrases.proofs.Laws.{IsSound, Sounds}
use Rattle.da_phrases.proofs.Shorter.{TypeIn-shrinks, deeper-shrinks}
use Rattle.da_parse.proofs.ShorterStmts.{ParamBy-shrinks, IsMline-shrinks, IsMessage-shrinks, IsClass-shrinks, member_shrinks}
use Rattle.da_phrases.proofs.SoundTypes.{types-sound, type_here-sound}
use Rattle.da_phrases.proofs.SoundPlaces.{places-sound, pattern_there-sound}
use Rattle.da_parse.proofs.SoundStmts.{AfterColon, block_there-sound}
use Rattle.da_parse.proofs.SoundMembers.{param_by-sound, member-sound}
use Rattle.da_parse.proofs.SoundPrograms.{OuterSounds, outer_sound, message-sound, class-sound, main_line-sound}
use Rattle.da_phrases.proofs.Faults.{Rule, Anywhere, Cut, Good, Whole}
use Rattle.da_phrases.proofs.FaultLists.{Strict}
use Rattle.da_phrases.proofs.FaultTypes.{below, type_in-whole, types-whole, types-strict}
use Rattle.da_phrases.proofs.FaultPlaces.{by_parts, disj-strict, levels, places}
use Rattle.da_parse.proofs.FaultBodies.{bodies-whole, block_whole}
use Rattle.da_parse.proofs.FaultMembers.{param_marks, param_by-whole, members-whole}
use Rattle.da_parse.proofs.FaultPrograms.{main_marks, main_line-whole, main-whole, message-good, class-good}
use Rattle.da_parse.proofs.FaultWhole.{program-whole}

abbrev Any : ℕ → Room
Any d t = Unit {0}

-- ---- what readers pass, whatever may be opened

module _ (loose : Bool) (limit : Limit) (f : ℕ) (some : 1 ≤ f) where
  abbrev Param_ : Reader Param
  Param_ = param_by loose (types limit (f - 1) 2)

  abbrev O : Outer
  O = outer_by loose limit f

  param_is : IsSound Param_ (ParameterBy loose Any f)
  param_is = param_by-sound loose (types limit (f - 1) 2) (TypeIn Any f 2) (types-sound limit Any (λ d t h. tt) (f - 1) f 2 (omega arith))

  pub param-strict : Strict Param_
  param-strict i y e = ParamBy-shrinks loose (TypeIn Any f 2) (TypeIn-shrinks Any f 2) _ _ _ (param_is i y e)

  outer_is : OuterSounds O Any f (ParameterBy loose Any f)
  outer_is = outer_sound limit Any (λ d t h. tt) Param_ (ParameterBy loose Any f) param_is f f some (omega arith)

  pub message-keeps : (at_it : ℕ) (i : List Tok) (y : MessageDecl × List Tok) → message O at_it i ≡ Ok y → length y.1 ≤ length i
  message-keeps at_it i y e =
      let t : Tok = record { mark = m.Message; text = []; line = at_it } in
      let shorter : length y.1 < length (t ∷ i) = IsMessage-shrinks Any f _ _ _ (message-sound O Any f (ParameterBy loose Any f) outer_is (t ∷ i) i y (at refl) e) in
      omega (arith, shorter)

  pub class-keeps : (at_it : ℕ) (i : List Tok) (y : ClassTree × List Tok) → class O at_it i ≡ Ok y → length y.1 ≤ length i
  class-keeps at_it i y e =
      let t : Tok = record { mark = m.Class; text = []; line = at_it } in
      let shorter : length y.1 < length (t ∷ i) =
      IsClass-shrinks Any f (ParameterBy loose Any f) (ParamBy-shrinks loose (TypeIn Any f 2) (TypeIn-shrinks Any f 2)) _ _ _ (class-sound O Any f (ParameterBy loose Any f) outer_is (t ∷ i) i y (at refl) e) in
      omega (arith, shorter)

  pub main_line-strict : Strict (main_line O)
  main_line-strict i y e = IsMline-shrinks (Any 1) (deeper Any f 2) (deeper-shrinks Any f 2) _ _ _ (main_line-sound O Any f (ParameterBy loose Any f) outer_is i y e)

  pub member-strict : Strict (member (parts_in limit Param_ (f - 1) 1))
  member-strict i y e = member_shrinks Any f (ParameterBy loose Any f) (ParamBy-shrinks loose (TypeIn Any f 2) (TypeIn-shrinks Any f 2)) _ _ _
      (member-sound (parts_in limit Param_ (f - 1) 1) (Any 1) (places-sound limit Any (λ d t h. tt) (f - 1) f 1 (omega arith)).fits
      (TypeIn Any f 1) (type_here-sound limit Any (λ d t h. tt) (f - 1) f 1 (omega (arith, some))) (ParameterBy loose Any f) param_is
      (IsPattern (Any 1) (deeper Any f 2)) (pattern_there-sound limit Any (λ d t h. tt) (f - 1) f 1 (omega arith))
      (IsBlock (Any 1) (deeper Any f 2) (BodyIn Any f 2)) (block_there-sound limit Any (λ d t h. tt) (f - 1) f 1 (omega arith)) i y e)

  -- by the parts of its places
  abbrev pub Place0 : Place
  Place0 = record { may_open = limit 0; expr = (place limit f 0).expr; pattern = (place limit f 0).pattern }

  abbrev pub Place1 : Place
  Place1 = record { may_open = limit 1; expr = (place limit (f - 1) 1).expr; pattern = (place limit (f - 1) 1).pattern }

  abbrev pub PartsOf : Place → Parts
  PartsOf p = record { place = p; ty = type_in (limit 1) (types limit (f - 1) 2); param = Param_; block = block_after_colon (place limit (f - 1) 1) (bodies limit (f - 1) 2) }

  abbrev pub OuterOf : Place → Place → Outer
  OuterOf p q = record { place = p; inner_ty = types limit f 1; inside = PartsOf q }

  pub parts_are : PartsOf Place1 ≡ parts_in limit Param_ (f - 1) 1
  parts_are = ap PartsOf (by_parts limit (f - 1) 1)

  pub outer_are : OuterOf Place0 Place1 ≡ O
  outer_are = ap (λ p. OuterOf p Place1) (by_parts limit f 0) ∙ ap (λ q. OuterOf (place limit f 0) q) (by_parts limit (f - 1) 1)

-- ---- the two readers of programs

-- the grammar may have more things open than the readers, of which the second may have more than the first
module _ (loose : Bool) (c : Cut) (h n : ℕ) (some : 1 ≤ c.most) (le : c.most ≤ h) (less : c.most ≤ n) where
  abbrev L : Limit
  L = below c.most

  some1 : 1 ≤ h
  some1 = omega (arith, some, le)

  abbrev First : Outer
  First = OuterOf loose L c.most some (Place0 loose L c.most some) (Place1 loose L c.most some)

  abbrev Second : Outer
  Second = OuterOf loose c.wider h some1 (Place0 loose c.wider h some1) (Place1 loose c.wider h some1)

  abbrev Parameter : Rule Param
  Parameter room = ParameterBy loose room (suc n)

  abbrev RoomForOne : Type 0
  RoomForOne = 0 < c.most

  abbrev RoomForTwo : Type 0
  RoomForTwo = 1 < c.most

  types_out : Whole c RoomForOne (m.Int ∷ []) (types L c.most 1) (types c.wider h 1) (λ room. TypeIn room (suc n) 1)
  types_out = types-whole c c.most h (suc n) 1 (omega arith) le (omega (arith, less))

  types_in : Whole c RoomForTwo (m.Int ∷ []) (types L (c.most - 1) 2) (types c.wider (h - 1) 2) (λ room. TypeIn room (suc n) 2)
  types_in = types-whole c (c.most - 1) (h - 1) (suc n) 2 (omega (arith, some)) (omega (arith, le)) (omega (arith, less))

  types_here : Whole c RoomForOne (m.Int ∷ []) (type_in (L 1) (types L (c.most - 1) 2)) (type_in (c.wider 1) (types c.wider (h - 1) 2)) (λ room. TypeIn room (suc n) 1)
  unfolding TypeIn
  types_here = type_in-whole c RoomForOne 1 (types-whole c (c.most - 1) (h - 1) n 2 (omega (arith, some)) (omega (arith, le)) (omega (arith, some, less))) (types-strict L (c.most - 1) 2) (types-strict c.wider (h - 1) 2)

  param_in : Whole c RoomForTwo (param_marks loose (m.Int ∷ [])) (param_by loose (types L (c.most - 1) 2)) (param_by loose (types c.wider (h - 1) 2)) Parameter
  param_in = param_by-whole c RoomForTwo loose types_in

  patterns_here : Whole c RoomForOne (m.Name ∷ []) (pattern (Place1 loose L c.most some)) (pattern (Place1 loose c.wider h some1)) (λ room. IsPattern (room 1) (deeper room (suc n) 2))
  patterns_here = subst (λ p. Whole c RoomForOne (m.Name ∷ []) (pattern p) (pattern (Place1 loose c.wider h some1)) (λ room. IsPattern (room 1) (deeper room (suc n) 2))) (sym (by_parts L (c.most - 1) 1))
      (subst (λ q. Whole c RoomForOne (m.Name ∷ []) (pattern (place L (c.most - 1) 1)) (pattern q) (λ room. IsPattern (room 1) (deeper room (suc n) 2))) (sym (by_parts c.wider (h - 1) 1))
      (levels c RoomForOne (c.most - 1) (h - 1) (suc n) 1 (places c (c.most - 1) (h - 1) (suc n) 1 (omega (arith, some)) (omega (arith, le)) (omega (arith, less)))).pattern)

  abbrev block_marks : List Mark
  block_marks = m.Colon ∷ m.Newline ∷ m.Indent ∷ m.Pass ∷ m.Newline ∷ m.Dedent ∷ []

  blocks_by : (Q : Type 0) → Whole c Q block_marks (block_after_colon (place L (c.most - 1) 1) (bodies L (c.most - 1) 2)) (block_after_colon (place c.wider (h - 1) 1) (bodies c.wider (h - 1) 2)) (λ room. AfterColon (IsBlock (room 1) (deeper room (suc n) 2) (BodyIn room (suc n) 2)))
  blocks_by Q = block_whole c Q (c.most - 1) (h - 1) (suc n) 1 (omega (arith, some)) (omega (arith, le)) (omega (arith, less))
      (bodies-whole c (c.most - 1) (h - 1) (suc n) 2 (omega (arith, some)) (omega (arith, le)) (omega (arith, less)))

  member1 : Strict (member (PartsOf loose L c.most some (Place1 loose L c.most some)))
  member1 = subst (λ s. Strict (member s)) (sym (parts_are loose L c.most some)) (member-strict loose L c.most some)

  member2 : Strict (member (PartsOf loose c.wider h some1 (Place1 loose c.wider h some1)))
  member2 = subst (λ s. Strict (member s)) (sym (parts_are loose c.wider h some1)) (member-strict loose c.wider h some1)

  members_in : Whole c RoomForOne (m.Var ∷ m.Name ∷ m.Colon ∷ m.Int ∷ m.Newline ∷ m.Dedent ∷ []) (members (PartsOf loose L c.most some (Place1 loose L c.most some))) (members (PartsOf loose c.wider h some1 (Place1 loose c.wider h some1)))
      (λ room. Ended (IsMember (room 1) (TypeIn room (suc n) 1) (IsParams (Parameter room)) (IsPattern (room 1) (deeper room (suc n) 2)) (IsBlock (room 1) (deeper room (suc n) 2) (BodyIn room (suc n) 2))))
  members_in = members-whole c 1 _ _ _ _ RoomForOne types_here param_in (param-strict loose L c.most some) (param-strict loose c.wider h some1) patterns_here (blocks_by RoomForOne) (blocks_by RoomForTwo) member1 member2

  disj_in : Whole c RoomForTwo (m.Name ∷ []) ((place L (c.most - 1) 1).expr level.Disj) ((place c.wider (h - 1) 1).expr level.Disj) (λ room. (deeper room (suc n) 2).disj)
  disj_in = (places c (c.most - 1) (h - 1) (suc n) 1 (omega (arith, some)) (omega (arith, le)) (omega (arith, less))).disj

  lines_by : (Q : Type 0) → Whole c Q (m.Setup ∷ m.OpenParen ∷ m.Name ∷ m.CloseParen ∷ m.Newline ∷ []) (main_line First) (main_line Second) (λ room. IsMline (room 1) (deeper room (suc n) 2))
  lines_by Q = main_line-whole c Q (suc n) _ _ _ _ _ _ _ _ _ _ _ _ _ _ _ _ _ types_out (types-strict L c.most 1) (types-strict c.wider h 1) disj_in (disj-strict L (c.most - 1) 1) (disj-strict c.wider (h - 1) 1) members_in

  first_is : First ≡ outer_by loose L c.most
  first_is = outer_are loose L c.most some

  second_is : Second ≡ outer_by loose c.wider h
  second_is = outer_are loose c.wider h some1

  line1 : Strict (main_line First)
  line1 = subst (λ o. Strict (main_line o)) (sym first_is) (main_line-strict loose L c.most some)

  line2 : Strict (main_line Second)
  line2 = subst (λ o. Strict (main_line o)) (sym second_is) (main_line-strict loose c.wider h some1)

  abbrev Keeps1 : Outer → Type 0
  Keeps1 o = (at_it : ℕ) (i : List Tok) (y : MessageDecl × List Tok) → message o at_it i ≡ Ok y → length y.1 ≤ length i

  abbrev Keeps2 : Outer → Type 0
  Keeps2 o = (at_it : ℕ) (i : List Tok) (y : ClassTree × List Tok) → class o at_it i ≡ Ok y → length y.1 ≤ length i

  by_records : Whole c (Unit {0}) main_marks (program First) (program Second) (λ room z i s. s ≡ [] → IsProgramBy loose room (suc n) z i)
  by_records = program-whole c (Unit {0}) (suc n) First Second Parameter
      (main-whole c (Unit {0}) (suc n) _ _ _ _ _ _ _ _ _ _ _ _ _ _ _ _ Parameter (lines_by RoomForOne) line1 line2)
      (message-good c (Unit {0}) (suc n) _ _ _ _ _ _ _ _ _ _ _ _ _ _ _ _ _ types_out (types-strict L c.most 1) (types-strict c.wider h 1) disj_in (disj-strict L (c.most - 1) 1) (disj-strict c.wider (h - 1) 1) members_in)
      (class-good c (Unit {0}) (suc n) _ _ _ _ _ _ _ _ _ _ _ _ _ _ _ _ _ types_out (types-strict L c.most 1) (types-strict c.wider h 1) disj_in (disj-strict L (c.most - 1) 1) (disj-strict c.wider (h - 1) 1) members_in)
      (subst Keeps1 (sym first_is) (message-keeps loose L c.most some)) (subst Keeps2 (sym first_is) (class-keeps loose L c.most some))
      (subst Keeps1 (sym second_is) (message-keeps loose c.wider h some1)) (subst Keeps2 (sym second_is) (class-keeps loose c.wider h some1))

  pub programs-whole : Whole c (Unit {0}) main_marks (program (outer_by loose L c.most)) (program (outer_by loose c.wider h)) (λ room z i s. s ≡ [] → IsProgramBy loose room (suc n) z i)
  programs-whole = subst (λ o. Whole c (Unit {0}) main_marks (program o) (program (outer_by loose c.wider h)) (λ room z i s. s ≡ [] → IsProgramBy loose room (suc n) z i)) first_is
      (subst (λ o. Whole c (Unit {0}) main_marks (program First) (program o) (λ room z i s. s ≡ [] → IsProgramBy loose room (suc n) z i)) second_is by_records)
