-- Members of classes: what is shown of a place where the reader stops.
use Rattle.std.proofs.Common.{◌≡◌, ℕ, zero, suc, ◌+◌, ◌≤◌, ◌<◌, Bool, true, false, List, [], ◌∷◌, ◌++◌, length, Option, Some, None, Ok, refl, sym, subst, arith}
use Rattle.std.specs.Prelude.{nat_lt}
use Rattle.da_values.specs.declared.token.Mark.{Mark}
use Rattle.da_values.specs.declared.token.Mark.TheVariants as m
use Rattle.da_values.specs.Marks.{Tok}
use Rattle.da_lang.specs.declared.tree.Expr.{Expr}
use Rattle.da_lang.specs.declared.tree.Member.{Member}
use Rattle.da_lang.specs.declared.tree.Member.TheVariants as member_tree
use Rattle.da_lang.specs.declared.tree.Param.{Param}
use Rattle.da_lang.specs.declared.tree.PatternTree.{PatternTree}
use Rattle.da_lang.specs.declared.tree.Stmt.{Stmt}
use Rattle.da_lang.specs.declared.ty.Ty.{Ty}
use Rattle.da_lang.specs.Spelling as sp
use Rattle.da_lang.specs.Spelling.{Spelling, Room, At, at, Opens, Named, named, Closed, Ended}
use Rattle.da_lang.specs.Grammar as g
use Rattle.da_lang.specs.Grammar.{IsParam, IsFrom, IsAt, IsMember, IsParams}
use Rattle.da_phrases.specs.declared.place.Level.{Level}
use Rattle.da_phrases.specs.Reader.{mark, line, Reader, refuse, word}
use Rattle.da_phrases.specs.Place.{Limit, Place}
use Rattle.da_phrases.specs.Exprs.{pattern}
use Rattle.da_parse.specs.Parameters as pa
use Rattle.da_parse.specs.Parameters.{IsLooseParam, ParamBy}
use Rattle.da_parse.specs.Members.{Parts, no_type, typed_param, loose_param, param_by, params, variable, setup, run, method, definition_by, definition, sender, labels, handler, member_by, member, members}
use Rattle.da_phrases.proofs.Steps.{word_ok}
use Rattle.da_parse.proofs.ShorterStmts.{Named-shrinks}
use Rattle.da_parse.proofs.SoundStmts.{AfterColon}
use Rattle.da_phrases.proofs.Samples.{sample, onto}
use Rattle.da_phrases.proofs.Faults.{Rule, Anywhere, Makes, Cut, Good, Whole}
use Rattle.da_phrases.proofs.FaultSteps.{bind, bind_good, pure_good, pure_whole, refuse_good, by_mark_good, at_line_good, good_as, good_on, whole_as, past_mark, past_line, taking_name, after_good, opening_whole, expect_whole, word_whole}
use Rattle.da_phrases.proofs.FaultLists.{Strict, all_separated, all_closed, ended_whole}

word_strict : Strict (word m.Name)
word_strict i y e = Named-shrinks _ _ _ (word_ok i y e)

-- what a parameter is completed by
abbrev pub param_marks : Bool → List Mark → List Mark
param_marks false w = m.Name ∷ m.Colon ∷ w ++ []
param_marks true w = m.Name ∷ []

module _ (c : Cut) (Q : Type 0) where
  labels-whole : Whole c Q [] labels labels (λ room. IsAt)
  unfolding labels
  labels-whole = record {
    good = after_good c Q m.At
        (good_as c Q (λ room ns i r l i1 there. g.labels there l) (all_separated c Q m.Comma (word_whole c Q) word_strict word_strict).good)
        (pure_good c Q [] (λ room i. g.no_at));
    makes = record { of = λ wide n s few. ([], g.no_at) };
  }

  -- a parameter with its type
  typed_param-whole : {w : List Mark} {p q : Reader Ty} {Type_ : Rule Ty} → Whole c Q w p q Type_ → Whole c Q (m.Name ∷ m.Colon ∷ w ++ []) (typed_param p) (typed_param q) (λ room. IsParam (Type_ room))
  unfolding typed_param
  typed_param-whole types = bind c Q (word_whole c Q) (λ n. bind c Q (expect_whole c Q m.Colon) (λ _. bind c Q types (λ x.
      pure_whole c Q (record { name = n; ty = x }) (λ room i i1 h i2 colon i3 name. g.param name colon h))))

  -- a parameter that may lack its type
  loose_param-whole : {w : List Mark} {p q : Reader Ty} {Type_ : Rule Ty} → Whole c Q w p q Type_ → Whole c Q (m.Name ∷ []) (loose_param p) (loose_param q) (λ room. IsLooseParam (Type_ room))
  unfolding loose_param
  loose_param-whole types = bind c Q (word_whole c Q) (λ n. record {
    good = after_good c Q m.Colon (bind c Q types (λ x. pure_whole c Q (record { name = n; ty = x }) (λ room i i1 h i2 colon i3 name. pa.written name colon h))).good
        (pure_good c Q (record { name = n; ty = no_type }) (λ room i i1 name. pa.without name));
    makes = record { of = λ wide k s few. (record { name = n; ty = no_type }, λ i1 name. pa.without name) };
  })

  pub param_by-whole : (loose : Bool) {w : List Mark} {p q : Reader Ty} {Type_ : Rule Ty} → Whole c Q w p q Type_ → Whole c Q (param_marks loose w) (param_by loose p) (param_by loose q) (λ room. ParamBy loose (Type_ room))
  param_by-whole false types = typed_param-whole types
  param_by-whole true types = loose_param-whole types

module _ (c : Cut) (d : ℕ) (e e1 : Level → Reader Expr) (r r1 : Reader PatternTree) where
  abbrev P : Place
  P = record { may_open = λ left. nat_lt d c.most; expr = e; pattern = r }

  abbrev P1 : Place
  P1 = record { may_open = c.wider d; expr = e1; pattern = r1 }

  abbrev D : Type 0
  D = d < c.most

  module _ (Q : Type 0) {wb : List Mark} {y y1 : Reader Ty} {a a1 : Reader Param} {b b1 : Reader (List Stmt)} {Type_ : Rule Ty} {Parameter : Rule Param} {Pattern : Rule PatternTree} {Block : Rule (List Stmt)} {wp : List Mark}
      (types : Whole c Q (m.Int ∷ []) y y1 Type_) (param : Whole c D wp a a1 Parameter) (param_strict : Strict a) (param_strict1 : Strict a1)
      (patterns : Whole c Q (m.Name ∷ []) (pattern P) (pattern P1) Pattern)
      (blocks : Whole c Q wb b b1 (λ room. AfterColon (Block room))) (blocks_in : Whole c D wb b b1 (λ room. AfterColon (Block room))) where
    abbrev S : Parts
    S = record { place = P; ty = y; param = a; block = b }

    abbrev S1 : Parts
    S1 = record { place = P1; ty = y1; param = a1; block = b1 }

    abbrev pub MemberHere : Rule Member
    MemberHere room = IsMember (room d) (Type_ room) (IsParams (Parameter room)) (Pattern room) (Block room)

    abbrev ParamsHere : Rule (List Param)
    ParamsHere room = IsParams (Parameter room)

    params-whole : Whole c D (m.CloseParen ∷ []) (params S) (params S1) ParamsHere
    unfolding params
    params-whole = all_closed c D m.CloseParen param param_strict param_strict1

    -- after a word
    abbrev WordHere : Mark → ℕ → Rule Member
    WordHere k at_it room z q s = (i : List Tok) → At k i q → sp.line i ≡ at_it → MemberHere room z i s

    variable-good : (at_it : ℕ) → Good c Q Anywhere (variable S at_it) (variable S1 at_it) (WordHere m.Var at_it)
    unfolding variable
    variable-good at_it = (bind c Q (word_whole c Q) (λ n. bind c Q (expect_whole c Q m.Colon) (λ _. bind c Q types (λ x. bind c Q (expect_whole c Q m.Newline) (λ _.
        pure_whole c Q (member_tree.Var n x at_it) (λ room i i1 over i2 h i3 colon i4 name i5 there lined. subst (λ l. MemberHere room (member_tree.Var n x l) i5 i) lined (g.var there name colon h over))))))).good

    -- after `def` and a word
    abbrev DefHere : Mark → ℕ → Rule Member
    DefHere k at_it room z q s = (i : List Tok) → At k i q → WordHere m.Def at_it room z i s

    setup-good : (at_it : ℕ) → Good c Q Anywhere (setup S at_it) (setup S1 at_it) (DefHere m.Setup at_it)
    unfolding setup
    setup-good at_it = (opening_whole c Q d m.OpenParen (bind c D params-whole (λ ps. bind c D blocks_in (λ does.
        pure_whole c D (member_tree.Setup ps does at_it) (λ room i i1 blk i2 l i3 opened i4 there i5 def lined.
        let (u, colon, body_is) = blk in subst (λ n. MemberHere room (member_tree.Setup ps does n) i5 i) lined (g.IsMember.setup def there opened l colon body_is)))))).good

    run-whole : (at_it : ℕ) → Whole c Q (m.OpenParen ∷ m.CloseParen ∷ wb ++ []) (run S at_it) (run S1 at_it) (DefHere m.Run at_it)
    unfolding run
    run-whole at_it = opening_whole c Q d m.OpenParen (bind c D (expect_whole c D m.CloseParen) (λ _. bind c D blocks_in (λ does.
        pure_whole c D (member_tree.Run does at_it) (λ room i i1 blk i2 close i3 opened i4 there i5 def lined.
        let (u, colon, body_is) = blk in subst (λ n. MemberHere room (member_tree.Run does n) i5 i) lined (g.run def there opened close colon body_is)))))

    method-good : (name : List ℕ) (at_it : ℕ) → Good c Q Anywhere (method S name at_it) (method S1 name at_it) (λ room z q s. (i : List Tok) → Named name i q → WordHere m.Def at_it room z i s)
    unfolding method
    method-good name at_it = (opening_whole c Q d m.OpenParen (bind c D params-whole (λ ps. bind c D blocks_in (λ does.
        pure_whole c D (member_tree.Method name ps does at_it) (λ room i i1 blk i2 l i3 opened i4 there i5 def lined.
        let (u, colon, body_is) = blk in subst (λ n. MemberHere room (member_tree.Method name ps does n) i5 i) lined (g.method def there opened l colon body_is)))))).good

    run_makes : (at_it : ℕ) → Makes c.most (m.Run ∷ m.OpenParen ∷ m.CloseParen ∷ wb ++ []) (WordHere m.Def at_it)
    run_makes at_it = record {
      of = λ wide n s few.
          let (z, h) = (run-whole at_it).makes.of wide n s (omega (arith, few)) in
          (z, h (onto (m.Run ∷ m.OpenParen ∷ m.CloseParen ∷ wb ++ []) s) (at refl));
    }

    definition_by-good : (at_it : ℕ) (k : Option Mark) → Good c Q (λ i. mark i ≡ k) (definition_by S at_it k) (definition_by S1 at_it k) (WordHere m.Def at_it)
    definition_by-good at_it (Some m.Setup) = past_mark c Q m.Setup (λ i ok. ok) (setup-good at_it)
    definition_by-good at_it (Some m.Run) = past_mark c Q m.Run (λ i ok. ok) (run-whole at_it).good
    definition_by-good at_it (Some m.Name) = taking_name c Q (λ i ok. ok) (λ n. method-good n at_it)
    definition_by-good at_it _ = refuse_good c Q (run_makes at_it)

    definition-good : (at_it : ℕ) → Good c Q Anywhere (definition S at_it) (definition S1 at_it) (WordHere m.Def at_it)
    unfolding definition
    definition-good at_it = by_mark_good c Q (λ k. good_on c Q (λ i ok. ok.1) (definition_by-good at_it k))

    sender-whole : Whole c Q [] (sender S) (sender S1) (λ room. IsFrom (Pattern room))
    unfolding sender
    sender-whole = record {
      good = after_good c Q m.From (bind c Q patterns (λ z. pure_whole c Q (Some z) (λ room i i1 h i2 there. g.from there h))).good (pure_good c Q None (λ room i. g.no_from));
      makes = record { of = λ wide n s few. (None, g.no_from) };
    }

    handler-good : (at_it : ℕ) → Good c Q Anywhere (handler S at_it) (handler S1 at_it) (WordHere m.Receive at_it)
    unfolding handler
    handler-good at_it = (bind c Q patterns (λ z. bind c Q sender-whole (λ o. bind c Q (labels-whole c Q) (λ ns. bind c Q blocks (λ does.
        pure_whole c Q (member_tree.Receive z o ns does at_it) (λ room i i1 blk i2 places i3 whence i4 h i5 there lined.
        let (u, colon, body_is) = blk in subst (λ n. MemberHere room (member_tree.Receive z o ns does n) i5 i) lined (g.receive there h whence places colon body_is))))))).good

    member_makes : Makes c.most (m.Var ∷ m.Name ∷ m.Colon ∷ m.Int ∷ m.Newline ∷ []) MemberHere
    member_makes = record { of = λ wide n s few. let (x, h) = types.makes.of wide n (sample m.Newline ∷ s) (omega (arith, few)) in (_, g.var (at refl) (named refl) (at refl) h (at refl)) }

    member_by-good : (at_it : ℕ) (k : Option Mark) → Good c Q (λ i. (line i ≡ at_it) × (mark i ≡ k)) (member_by S at_it k) (member_by S1 at_it k) MemberHere
    member_by-good at_it (Some m.Var) = past_line c Q m.Var at_it (λ i ok. (ok.1, ok.0)) (variable-good at_it)
    member_by-good at_it (Some m.Def) = past_line c Q m.Def at_it (λ i ok. (ok.1, ok.0)) (definition-good at_it)
    member_by-good at_it (Some m.Receive) = past_line c Q m.Receive at_it (λ i ok. (ok.1, ok.0)) (handler-good at_it)
    member_by-good at_it _ = refuse_good c Q member_makes

    member-whole : Whole c Q (m.Var ∷ m.Name ∷ m.Colon ∷ m.Int ∷ m.Newline ∷ []) (member S) (member S1) MemberHere
    unfolding member
    member-whole = record { good = at_line_good c Q (λ at_it. by_mark_good c Q (λ k. good_on c Q (λ i ok. (ok.0.1, ok.1)) (member_by-good at_it k))); makes = member_makes }

    nothing : member S [] ≡ refuse []
    unfolding member
    nothing = refl

    nothing1 : member S1 [] ≡ refuse []
    unfolding member
    nothing1 = refl

    pub members-whole : Strict (member S) → Strict (member S1) → Whole c Q (m.Var ∷ m.Name ∷ m.Colon ∷ m.Int ∷ m.Newline ∷ m.Dedent ∷ []) (members S) (members S1) (λ room. Ended (MemberHere room))
    unfolding members
    members-whole strict strict1 = ended_whole c Q member-whole strict strict1 nothing nothing1
