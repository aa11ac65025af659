-- What is read as a member of a class is spelled so.
use Rattle.std.proofs.Common.{◌≡◌, ℕ, zero, suc, ◌<◌, ◌≤◌, Bool, true, false, List, [], length, Option, Some, None, Ok, refl, subst, arith, inl, inr}
use Rattle.da_values.specs.declared.token.Mark.{Mark}
use Rattle.da_values.specs.declared.token.Mark.TheVariants as m
use Rattle.da_values.specs.Marks.{Tok}
use Rattle.da_lang.specs.declared.tree.Member.{Member}
use Rattle.da_lang.specs.declared.tree.Param.{Param}
use Rattle.da_lang.specs.declared.tree.PatternTree.{PatternTree}
use Rattle.da_lang.specs.declared.tree.Stmt.{Stmt}
use Rattle.da_lang.specs.declared.ty.Ty.{Ty}
use Rattle.da_lang.specs.Spelling as sp
use Rattle.da_lang.specs.Spelling.{Spelling, Room, At, Opens, Named, Number, Separated, Closed, EachAfter, Ended}
use Rattle.da_lang.specs.TypeGrammar.{TypeIn}
use Rattle.da_lang.specs.ExprGrammar.{IsPattern, deeper}
use Rattle.da_lang.specs.StmtGrammar.{IsBlock, BodyIn}
use Rattle.da_lang.specs.Grammar as g
use Rattle.da_lang.specs.Grammar.{IsParam, IsFrom, IsAt, IsMember, IsCount, IsMline, IsKind, IsTypes, IsParams, IsMessage, IsClass, IsDecls, IsMain, IsProgram}
use Rattle.da_phrases.specs.Reader.{Reader, mark, text, rest, ◌>>=◌, pure, word}
use Rattle.da_phrases.specs.Lists.{separated}
use Rattle.da_phrases.specs.Place.{Limit}
use Rattle.da_phrases.specs.Types.{types, type_in}
use Rattle.da_phrases.specs.Exprs.{pattern}
use Rattle.da_parse.specs.Parameters as p
use Rattle.da_parse.specs.Parameters.{IsLooseParam, ParamBy}
use Rattle.da_parse.specs.Members.{Parts, no_type, typed_param, loose_param, param_by, parts_in, params, variable, setup, run, method, definition_by, definition, sender, labels, handler, member_by, member, members}
use Rattle.da_phrases.proofs.Steps.{after_ok, word_ok, At-mark, Named-mark}
use Rattle.da_phrases.proofs.SoundSteps.{reads, made, passes, names, opening_by}
use Rattle.da_phrases.proofs.SoundTypes.{types-sound, type_there-sound}
use Rattle.da_phrases.proofs.SoundPlaces.{places-sound, pattern_there-sound}
use Rattle.da_phrases.proofs.ListSound.{all_separated, all_closed, ended-sound}
use Rattle.da_parse.proofs.SoundStmts.{same_line, AfterColon, block_there-sound}
use Rattle.da_phrases.proofs.Laws.{IsSound}

labels-sound : IsSound labels IsAt
unfolding labels
labels-sound i y e = elim (after_ok m.At (separated m.Comma (word m.Name) []) (pure []) i y e) [
  | inl h ↦ g.labels h.1 (all_separated m.Comma (word m.Name) Named word_ok h.0 y h.2)
  | inr h ↦ made IsAt i y h.1 g.no_at
]

-- a parameter with its type
typed_param-sound : (inner_ty : Reader Ty) (Type_ : Spelling Ty) → IsSound inner_ty Type_ → IsSound (typed_param inner_ty) (IsParam Type_)
unfolding typed_param
typed_param-sound inner_ty Type_ type_sound i y e =
    names i _ y e (λ u after_u name e1.
    passes m.Colon after_u _ y e1 (λ after_v colon e2.
    reads (inner_ty after_v) _ y e2 (λ w after_w read last.
    made (IsParam Type_) i y last (g.param name colon (type_sound after_v (w, after_w) read)))))

-- a parameter that may lack its type
loose_param-sound : (inner_ty : Reader Ty) (Type_ : Spelling Ty) → IsSound inner_ty Type_ → IsSound (loose_param inner_ty) (IsLooseParam Type_)
unfolding loose_param
loose_param-sound inner_ty Type_ type_sound i y e =
    names i _ y e (λ u after_u name e1.
    elim (after_ok m.Colon (inner_ty >>= λ x. pure (record { name = u; ty = x })) (pure (record { name = u; ty = no_type })) after_u y e1) [
      | inl h ↦ (
          reads (inner_ty h.0) _ y h.2 (λ w after_w read last.
          made (IsLooseParam Type_) i y last (p.written name h.1 (type_sound h.0 (w, after_w) read))))
      | inr h ↦ made (IsLooseParam Type_) i y h.1 (p.without name)
    ])

pub param_by-sound : (loose : Bool) (inner_ty : Reader Ty) (Type_ : Spelling Ty) → IsSound inner_ty Type_ → IsSound (param_by loose inner_ty) (ParamBy loose Type_)
param_by-sound false inner_ty Type_ type_sound = typed_param-sound inner_ty Type_ type_sound
param_by-sound true inner_ty Type_ type_sound = loose_param-sound inner_ty Type_ type_sound

module _ (s : Parts) (room : Room) (fits : (t : List Tok) → s.place.may_open (length t) ≡ true → room t)
    (Type_ : Spelling Ty) (type_sound : IsSound s.ty Type_) (Parameter : Spelling Param) (param_sound : IsSound s.param Parameter)
    (Pattern : Spelling PatternTree) (pattern_sound : IsSound (pattern s.place) Pattern)
    (Block : Spelling (List Stmt)) (block_sound : IsSound s.block (AfterColon Block)) where
  params-sound : IsSound (params s) (IsParams Parameter)
  unfolding params
  params-sound i y e = all_closed m.CloseParen s.param Parameter param_sound i y e

  variable-sound : (t i : List Tok) (y : Member × List Tok) → At m.Var t i → variable s (sp.line t) i ≡ Ok y → IsMember room Type_ (IsParams Parameter) Pattern Block y.0 t y.1
  unfolding variable
  variable-sound t i y there e =
      names i _ y e (λ u after_u name e1.
      passes m.Colon after_u _ y e1 (λ after_v colon e2.
      reads (s.ty after_v) _ y e2 (λ w after_w read e3.
      passes m.Newline after_w _ y e3 (λ after_x over last.
      made (IsMember room Type_ (IsParams Parameter) Pattern Block) t y last
      (g.var there name colon (type_sound after_v (w, after_w) read) over)))))

  setup-sound : (t r i : List Tok) (y : Member × List Tok) → At m.Def t r → At m.Setup r i → setup s (sp.line t) i ≡ Ok y → IsMember room Type_ (IsParams Parameter) Pattern Block y.0 t y.1
  unfolding setup
  setup-sound t r i y def there e =
      opening_by s.place.may_open room fits m.OpenParen i _ y e (λ after_u opened e1.
      reads (params s after_u) _ y e1 (λ v after_v read e2.
      reads (s.block after_v) _ y e2 (λ w after_w does last.
      let (a, colon, b) = block_sound after_v (w, after_w) does in
      made (IsMember room Type_ (IsParams Parameter) Pattern Block) t y last
      (g.IsMember.setup def there opened (params-sound after_u (v, after_v) read) colon b))))

  run-sound : (t r i : List Tok) (y : Member × List Tok) → At m.Def t r → At m.Run r i → run s (sp.line t) i ≡ Ok y → IsMember room Type_ (IsParams Parameter) Pattern Block y.0 t y.1
  unfolding run
  run-sound t r i y def there e =
      opening_by s.place.may_open room fits m.OpenParen i _ y e (λ after_u opened e1.
      passes m.CloseParen after_u _ y e1 (λ after_v close e2.
      reads (s.block after_v) _ y e2 (λ w after_w does last.
      let (a, colon, b) = block_sound after_v (w, after_w) does in
      made (IsMember room Type_ (IsParams Parameter) Pattern Block) t y last
      (g.run def there opened close colon b))))

  method-sound : (n : List ℕ) (t r i : List Tok) (y : Member × List Tok) → At m.Def t r → Named n r i → method s n (sp.line t) i ≡ Ok y → IsMember room Type_ (IsParams Parameter) Pattern Block y.0 t y.1
  unfolding method
  method-sound n t r i y def name e =
      opening_by s.place.may_open room fits m.OpenParen i _ y e (λ after_u opened e1.
      reads (params s after_u) _ y e1 (λ v after_v read e2.
      reads (s.block after_v) _ y e2 (λ w after_w does last.
      let (a, colon, b) = block_sound after_v (w, after_w) does in
      made (IsMember room Type_ (IsParams Parameter) Pattern Block) t y last
      (g.method def name opened (params-sound after_u (v, after_v) read) colon b))))

  definition_by-sound : (k : Option Mark) (t i : List Tok) (y : Member × List Tok) → At m.Def t i → mark i ≡ k → definition_by s (sp.line t) k i ≡ Ok y → IsMember room Type_ (IsParams Parameter) Pattern Block y.0 t y.1
  definition_by-sound (Some m.Setup) t i y def is e = setup-sound t i (rest i) y def (At-mark m.Setup i is) e
  definition_by-sound (Some m.Run) t i y def is e = run-sound t i (rest i) y def (At-mark m.Run i is) e
  definition_by-sound (Some m.Name) t i y def is e = method-sound (text i) t i (rest i) y def (Named-mark i is) e
  definition_by-sound _ t i y def is e = cc

  definition-sound : (t i : List Tok) (y : Member × List Tok) → At m.Def t i → definition s (sp.line t) i ≡ Ok y → IsMember room Type_ (IsParams Parameter) Pattern Block y.0 t y.1
  unfolding definition
  definition-sound t i y def e = definition_by-sound (mark i) t i y def refl e

  sender-sound : IsSound (sender s) (IsFrom Pattern)
  unfolding sender
  sender-sound i y e = elim (after_ok m.From (pattern s.place >>= λ x. pure (Some x)) (pure None) i y e) [
    | inl h ↦ (
        reads (pattern s.place h.0) _ y h.2 (λ u after_u read last.
        made (IsFrom Pattern) i y last (g.from h.1 (pattern_sound h.0 (u, after_u) read))))
    | inr h ↦ made (IsFrom Pattern) i y h.1 g.no_from
  ]

  handler-sound : (t i : List Tok) (y : Member × List Tok) → At m.Receive t i → handler s (sp.line t) i ≡ Ok y → IsMember room Type_ (IsParams Parameter) Pattern Block y.0 t y.1
  unfolding handler
  handler-sound t i y there e =
      reads (pattern s.place i) _ y e (λ u after_u read e1.
      reads (sender s after_u) _ y e1 (λ v after_v whence e2.
      reads (labels after_v) _ y e2 (λ w after_w places e3.
      reads (s.block after_w) _ y e3 (λ x after_x does last.
      let (a, colon, b) = block_sound after_w (x, after_x) does in
      made (IsMember room Type_ (IsParams Parameter) Pattern Block) t y last
      (g.receive there (pattern_sound i (u, after_u) read) (sender-sound after_u (v, after_v) whence) (labels-sound after_v (w, after_w) places) colon b)))))

  member_by-sound : (k : Option Mark) (i : List Tok) (y : Member × List Tok) → mark i ≡ k → member_by s (sp.line i) k i ≡ Ok y → IsMember room Type_ (IsParams Parameter) Pattern Block y.0 i y.1
  member_by-sound (Some m.Var) i y is e = variable-sound i (rest i) y (At-mark m.Var i is) e
  member_by-sound (Some m.Def) i y is e = definition-sound i (rest i) y (At-mark m.Def i is) e
  member_by-sound (Some m.Receive) i y is e = handler-sound i (rest i) y (At-mark m.Receive i is) e
  member_by-sound _ i y is e = cc

  pub member-sound : IsSound (member s) (IsMember room Type_ (IsParams Parameter) Pattern Block)
  unfolding member
  member-sound i y e = member_by-sound (mark i) i y refl (subst (λ at. member_by s at (mark i) i ≡ Ok y) (same_line i) e)

  pub members-sound : IsSound (members s) (Ended (IsMember room Type_ (IsParams Parameter) Pattern Block))
  unfolding members
  members-sound i y e = ended-sound (member s) (IsMember room Type_ (IsParams Parameter) Pattern Block) member-sound i y e

-- the members of a class where d things are open, by a rule that allows no more than that of the grammar
module _ (limit : Limit) (room : ℕ → Room) (fits : (d : ℕ) (t : List Tok) → limit d (length t) ≡ true → room d t) where
  type_inside-sound : (f n d : ℕ) → f < n → IsSound (type_in (limit d) (types limit f (suc d))) (TypeIn room n d)
  unfolding TypeIn
  type_inside-sound f zero d less i y e = absurd (omega (arith, less))
  type_inside-sound f (suc n) d less i y e = type_there-sound limit room fits f n d (omega (arith, less)) i y e

  pub members_there-sound : (param : Reader Param) (Parameter : Spelling Param) → IsSound param Parameter → (f n d : ℕ) → f < n
      → IsSound (members (parts_in limit param f d)) (Ended (IsMember (room d) (TypeIn room n d) (IsParams Parameter) (IsPattern (room d) (deeper room n (suc d))) (IsBlock (room d) (deeper room n (suc d)) (BodyIn room n (suc d)))))
  members_there-sound param Parameter param_sound f n d less =
      let few : f ≤ n = omega (arith, less) in
      members-sound (parts_in limit param f d) (room d) (places-sound limit room fits f n d few).fits (TypeIn room n d) (type_inside-sound f n d less) Parameter param_sound
      (IsPattern (room d) (deeper room n (suc d))) (pattern_there-sound limit room fits f n d few) (IsBlock (room d) (deeper room n (suc d)) (BodyIn room n (suc d))) (block_there-sound limit room fits f n d few)
