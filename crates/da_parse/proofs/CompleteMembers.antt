-- The members of classes that are spelled so are read so.
use Rattle.std.proofs.Common.{◌≡◌, ℕ, Bool, true, false, List, [], length, Option, Some, Ok, refl, ap, ◌∙◌}
use Rattle.da_values.specs.declared.token.Mark.{Mark}
use Rattle.da_values.specs.declared.token.Mark.TheVariants as m
use Rattle.da_values.specs.Marks.{Tok}
use Rattle.da_lang.specs.declared.tree.Member.{Member}
use Rattle.da_lang.specs.declared.tree.Param.{Param}
use Rattle.da_lang.specs.declared.tree.PatternTree.{PatternTree}
use Rattle.da_lang.specs.declared.tree.Stmt.{Stmt}
use Rattle.da_lang.specs.declared.ty.Ty.{Ty}
use Rattle.da_lang.specs.Spelling as sp
use Rattle.da_lang.specs.Spelling.{Spelling, Room, At, Opens, Named, Separated, Closed, Ended}
use Rattle.da_lang.specs.TypeGrammar.{TypeIn}
use Rattle.da_lang.specs.ExprGrammar.{IsPattern, deeper}
use Rattle.da_lang.specs.StmtGrammar.{IsBlock, BodyIn}
use Rattle.da_lang.specs.Grammar.{IsParam, IsFrom, IsAt, IsMember, IsParams}
use Rattle.da_phrases.specs.Reader as reader
use Rattle.da_phrases.specs.Reader.{mark, text, rest, same, sees, Reading, Reader, continued, ◌>>=◌, ◌>>◌, pure, refuse, expect, word}
use Rattle.da_phrases.specs.Place.{Limit}
use Rattle.da_phrases.specs.Types.{types}
use Rattle.da_phrases.specs.Exprs.{pattern}
use Rattle.da_parse.specs.Parameters.{IsLooseParam, ParamBy, ParameterBy}
use Rattle.da_parse.specs.Members.{Parts, typed_param, loose_param, param_by, parts_in, params, variable, setup, run, method, definition_by, definition, sender, labels, handler, member_by, member, members}
use Rattle.da_phrases.proofs.Steps.{mark-At, mark-Named, behind_is, after_not, expect_is, not_seen, room-Opens, opening_is, word_is, taking_is, past_is}
use Rattle.da_phrases.proofs.Laws.{IsComplete, Shrinks, Begins, Lacks, Anything, goes_on_param}
use Rattle.da_phrases.proofs.Firsts.{never_seen, lacked, next-At}
use Rattle.da_parse.proofs.ShorterStmts.{begins_name, begins_member, IsParam-begins, IsParam-shrinks, IsLooseParam-begins, IsLooseParam-shrinks, Named-shrinks, IsMember-begins, member_shrinks}
use Rattle.da_phrases.proofs.ListComplete.{separated-complete, closed-complete, ended-complete}
use Rattle.da_phrases.proofs.Shorter.{TypeIn-shrinks}
use Rattle.da_phrases.proofs.CompleteTypes.{Enough, types-complete, type_at-complete}
use Rattle.da_phrases.proofs.CompletePlaces.{place-complete, pattern_there-complete}
use Rattle.da_parse.proofs.CompleteStmts.{block_there-complete}
use Rattle.da_parse.proofs.SoundStmts.{same_line}

labels-complete : (ns : List (List ℕ)) (i r s : List Tok) → IsAt ns i r → At m.Colon r s → labels i ≡ Ok (ns, r)
unfolding labels
labels-complete _ i r s IsAt.no_at c = after_not m.At _ _ (not_seen m.At c refl)
labels-complete ns i r s (IsAt.labels h l) c =
    behind_is _ _ h ∙ separated-complete {Stops = Anything} {item = word m.Name} (λ x j q a t. word_is a) Named-shrinks m.Comma (λ j q k. tt) [] ns _ r l tt (not_seen m.Comma c refl)

no_sender : (ns : List (List ℕ)) (i r s : List Tok) → IsAt ns i r → At m.Colon r s → sees m.From i ≡ false
no_sender _ i r s IsAt.no_at c = not_seen m.From c refl
no_sender ns i r s (IsAt.labels h l) c = not_seen m.From h refl

-- the reader of a parameter is complete for a rule of parameters, which begin with a name, if anything may be opened there
pub record ParamCompletes (room : Room) (param : Reader Param) (Parameter : Spelling Param) : Type 0 where
  pub shrinks : Shrinks Parameter
  pub begins : Begins begins_name Parameter
  pub complete : (t : List Tok) → room t → IsComplete (Lacks goes_on_param) param Parameter

typed_param_reads : (inner_ty : Reader Ty) (Inner : Spelling Ty) → IsComplete Anything inner_ty Inner → IsComplete (Lacks goes_on_param) (typed_param inner_ty) (IsParam Inner)
unfolding typed_param
typed_param_reads inner_ty Inner inner_complete _ i r (IsParam.param {n} {x} a c b) _ = rw (word_is a, expect_is c, inner_complete x _ r b tt) refl

-- a parameter with its type
typed_param-complete : (room : Room) (inner_ty : Reader Ty) (Inner : Spelling Ty) → Shrinks Inner → ((t : List Tok) → room t → IsComplete Anything inner_ty Inner) → ParamCompletes room (typed_param inner_ty) (IsParam Inner)
typed_param-complete room inner_ty Inner inner_shrinks inner_complete = record {
  shrinks = IsParam-shrinks Inner inner_shrinks;
  begins = IsParam-begins Inner;
  complete = λ t some. typed_param_reads inner_ty Inner (inner_complete t some);
}

loose_param_reads : (inner_ty : Reader Ty) (Inner : Spelling Ty) → IsComplete Anything inner_ty Inner → IsComplete (Lacks goes_on_param) (loose_param inner_ty) (IsLooseParam Inner)
unfolding loose_param
loose_param_reads inner_ty Inner inner_complete _ i r (IsLooseParam.written {n} {x} a c b) _ = rw (word_is a) (behind_is _ _ c ∙ rw (inner_complete x _ r b tt) refl)
loose_param_reads inner_ty Inner inner_complete _ i r (IsLooseParam.without {n} a) lacks = rw (word_is a) (after_not m.Colon _ _ (lacked goes_on_param m.Colon r refl lacks))

-- a parameter that may lack its type
loose_param-complete : (room : Room) (inner_ty : Reader Ty) (Inner : Spelling Ty) → Shrinks Inner → ((t : List Tok) → room t → IsComplete Anything inner_ty Inner) → ParamCompletes room (loose_param inner_ty) (IsLooseParam Inner)
loose_param-complete room inner_ty Inner inner_shrinks inner_complete = record {
  shrinks = IsLooseParam-shrinks Inner inner_shrinks;
  begins = IsLooseParam-begins Inner;
  complete = λ t some. loose_param_reads inner_ty Inner (inner_complete t some);
}

param_by-complete : (loose : Bool) (room : Room) (inner_ty : Reader Ty) (Inner : Spelling Ty) → Shrinks Inner → ((t : List Tok) → room t → IsComplete Anything inner_ty Inner) → ParamCompletes room (param_by loose inner_ty) (ParamBy loose Inner)
param_by-complete false room inner_ty Inner inner_shrinks inner_complete = typed_param-complete room inner_ty Inner inner_shrinks inner_complete
param_by-complete true room inner_ty Inner inner_shrinks inner_complete = loose_param-complete room inner_ty Inner inner_shrinks inner_complete

module _ (s : Parts) (room : Room) (allows : (t : List Tok) → room t → s.place.may_open (length t) ≡ true)
    (Type_ : Spelling Ty) (type_complete : IsComplete Anything s.ty Type_)
    (Parameter : Spelling Param) (param_completes : ParamCompletes room s.param Parameter)
    (Pattern : Spelling PatternTree) (pattern_complete : IsComplete Anything (pattern s.place) Pattern)
    (Block : Spelling (List Stmt)) (block_complete : (b : List Stmt) (i r q : List Tok) → At m.Colon i r → Block b r q → s.block i ≡ Ok (b, q))
    (member_shrinks : Shrinks (IsMember room Type_ (IsParams Parameter) Pattern Block)) where
  params-complete : (t : List Tok) → room t → (ps : List Param) (i r : List Tok) → IsParams Parameter ps i r → params s i ≡ Ok (ps, r)
  unfolding params
  params-complete t some ps i r l =
      closed-complete (param_completes.complete t some) param_completes.shrinks m.CloseParen begins_name param_completes.begins refl refl (λ j q h. next-At goes_on_param h) (λ j q h. next-At goes_on_param h) [] ps i r l

  sender-complete : (o : Option PatternTree) (ns : List (List ℕ)) (i r q z : List Tok) → IsFrom Pattern o i r → IsAt ns r q → At m.Colon q z → sender s i ≡ Ok (o, r)
  unfolding sender
  sender-complete _ ns i r q z IsFrom.no_from l c = after_not m.From _ _ (no_sender ns i q z l c)
  sender-complete _ ns i r q z (IsFrom.from {p} h a) l c = behind_is _ _ h ∙ rw (pattern_complete p _ r a tt) refl

  -- a member is read by its first token, at its line
  at_member : {k : Mark} (i : List Tok) {o : Reading Member} → mark i ≡ Some k → member_by s (sp.line i) (Some k) i ≡ o → member s i ≡ o
  unfolding member
  at_member {k} i is e = ap (λ z. member_by s (reader.line i) z i) is ∙ ap (λ at. member_by s at (Some k) i) (same_line i) ∙ e

  -- a definition is read by the token after `def`
  at_definition : {k : Mark} {i r : List Tok} {o : Reading Member} → At m.Def i r → mark r ≡ Some k → definition_by s (sp.line i) (Some k) r ≡ o → member s i ≡ o
  unfolding definition
  at_definition {k} {i} {r} h is e = at_member i (mark-At h) (past_is (definition s (sp.line i)) h ∙ ap (λ z. definition_by s (sp.line i) z r) is ∙ e)

  member-complete : IsComplete Anything (member s) (IsMember room Type_ (IsParams Parameter) Pattern Block)
  unfolding variable setup run method handler
  member-complete _ i r (IsMember.var {x = x} h n c a e) _ =
      at_member i (mark-At h) (past_is (variable s (sp.line i)) h ∙ rw (word_is n, expect_is c, type_complete x _ _ a tt, expect_is e) refl)
  member-complete _ i r (IsMember.setup {ps} {b} h k o l c a) _ =
      at_definition h (mark-At k) (past_is (setup s (sp.line i)) k ∙ rw (opening_is s.place.may_open allows o, params-complete _ (room-Opens o) ps _ _ l, block_complete b _ _ r c a) refl)
  member-complete _ i r (IsMember.run {b} h k o l c a) _ =
      at_definition h (mark-At k) (past_is (run s (sp.line i)) k ∙ rw (opening_is s.place.may_open allows o, expect_is l, block_complete b _ _ r c a) refl)
  member-complete _ i r (IsMember.method {n} {ps} {b} h k o l c a) _ =
      at_definition h (mark-Named k) (taking_is (λ z. method s z (sp.line i)) k ∙ rw (opening_is s.place.may_open allows o, params-complete _ (room-Opens o) ps _ _ l, block_complete b _ _ r c a) refl)
  member-complete _ i r (IsMember.receive {p} {o} {ns} {b} h a f l c d) _ =
      at_member i (mark-At h) (past_is (handler s (sp.line i)) h ∙ rw (pattern_complete p _ _ a tt, sender-complete o ns _ _ _ _ f l c, labels-complete ns _ _ _ l c, block_complete b _ _ r c d) refl)

  pub members-complete : (ms : List Member) (i r : List Tok) → Ended (IsMember room Type_ (IsParams Parameter) Pattern Block) ms i r → members s i ≡ Ok (ms, r)
  unfolding members
  members-complete ms i r l =
      ended-complete member-complete member_shrinks
      (λ x j q h. (never_seen begins_member m.Dedent j refl (IsMember-begins room Type_ (IsParams Parameter) Pattern Block x j q h), tt)) (λ j q h. tt) ms i r l

-- the members of a class inside its block, by a rule of how many things may be open, which allows all that the grammar allows
module _ (limit : Limit) (room : ℕ → Room) (allows : (d : ℕ) (t : List Tok) → room d t → limit d (length t) ≡ true) where
  pub members_inside-complete : (param : Reader Param) (Parameter : Spelling Param) → ParamCompletes (room 1) param Parameter → (g f : ℕ) → Enough room g f 1 → (ms : List Member) (i r : List Tok)
      → Ended (IsMember (room 1) (TypeIn room g 1) (IsParams Parameter) (IsPattern (room 1) (deeper room g 2)) (IsBlock (room 1) (deeper room g 2) (BodyIn room g 2))) ms i r → members (parts_in limit param f 1) i ≡ Ok (ms, r)
  members_inside-complete param Parameter param_completes g f e =
      members-complete (parts_in limit param f 1) (room 1) (place-complete limit room allows g f 1 e).allows
      (TypeIn room g 1) (type_at-complete limit room allows g f 1 e) Parameter param_completes
      (IsPattern (room 1) (deeper room g 2)) (pattern_there-complete limit room allows g f 1 e) (IsBlock (room 1) (deeper room g 2) (BodyIn room g 2)) (block_there-complete limit room allows g f 1 e)
      (member_shrinks room g Parameter param_completes.shrinks)

  -- where parameters may lack their types or may not
  pub params_by-complete : (loose : Bool) (g f : ℕ) → Enough room g f 1 → ParamCompletes (room 1) (param_by loose (types limit f 2)) (ParameterBy loose room g)
  params_by-complete loose g f e = param_by-complete loose (room 1) (types limit f 2) (TypeIn room g 2) (TypeIn-shrinks room g 2) (types-complete limit room allows g f 1 e)
