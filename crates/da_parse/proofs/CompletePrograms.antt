-- The programs that are spelled so are read so.
use Rattle.std.proofs.Common.{◌≡◌, ℕ, zero, suc, ◌+◌, ◌-◌, ◌≤◌, Bool, true, false, List, [], ◌∷◌, ◌++◌, length, Option, Some, Ok, refl, sym, ap, ◌∙◌, subst, arith, append_assoc, append-nil}
use Rattle.std.specs.Prelude.{◌⊎◌}
use Rattle.da_values.specs.declared.token.Mark.{Mark}
use Rattle.da_values.specs.declared.token.Mark.TheVariants as m
use Rattle.da_values.specs.Marks.{Tok}
use Rattle.da_lang.specs.declared.tree.ClassTree.{ClassTree}
use Rattle.da_lang.specs.declared.tree.MainLine.{MainLine}
use Rattle.da_lang.specs.declared.tree.Member.{Member}
use Rattle.da_lang.specs.declared.tree.MessageDecl.{MessageDecl}
use Rattle.da_lang.specs.declared.tree.Param.{Param}
use Rattle.da_lang.specs.declared.tree.Tree.{Tree}
use Rattle.da_lang.specs.declared.ty.ChannelKind.{ChannelKind}
use Rattle.da_lang.specs.Spelling as sp
use Rattle.da_lang.specs.Spelling.{Spelling, Room, At, Opens, Named, Ended}
use Rattle.da_lang.specs.TypeGrammar.{TypeIn}
use Rattle.da_lang.specs.ExprGrammar.{IsPattern, deeper}
use Rattle.da_lang.specs.StmtGrammar.{IsBlock, BodyIn}
use Rattle.da_lang.specs.Grammar.{IsMember, IsCount, IsMline, IsKind, IsParams, IsMessage, IsClass, IsDecls, IsMain, IsProgram}
use Rattle.da_phrases.specs.Reader as reader
use Rattle.da_phrases.specs.Reader.{mark, text, rest, same, is_mark, sees, Reading, Reader, continued, ◌>>=◌, ◌>>◌, pure, refuse, expect, word, number}
use Rattle.da_phrases.specs.Place.{Limit}
use Rattle.da_phrases.specs.Types.{types}
use Rattle.da_parse.specs.Members.{param_by, members}
use Rattle.da_parse.specs.Parameters.{ParameterBy, IsProgramBy}
use Rattle.da_parse.specs.Programs.{Outer, outer_in, outer_by, count, one_of, kind, header_end, message, class, new_line, setup_line, line_by, main_line, main, program_end, decls_by, decls_from, decls, program}
use Rattle.da_phrases.proofs.Steps.{mark-At, mark-Named, rest-At, behind_is, after_not, expect_is, not_seen, room-Opens, opening_is, word_is, number_is, taking_is, past_is}
use Rattle.da_phrases.proofs.Laws.{IsComplete, Shrinks, Anything, Completes, goes_on_disj}
use Rattle.da_phrases.proofs.Firsts.{begins_type, never_seen, next-At, TypeIn-begins}
use Rattle.da_phrases.proofs.Shorter.{TypeIn-shrinks, deeper-shrinks}
use Rattle.da_parse.proofs.ShorterStmts.{begins_line, IsMline-begins, IsMline-shrinks, ParamBy-shrinks, IsMessage-shrinks, IsClass-shrinks}
use Rattle.da_phrases.proofs.ListComplete.{closed-complete, behind-complete, ended-complete}
use Rattle.da_phrases.proofs.CompleteTypes.{Enough, enough_fewer, enough_below, types-complete}
use Rattle.da_phrases.proofs.CompletePlaces.{place-complete}
use Rattle.da_parse.proofs.CompleteMembers.{ParamCompletes, params_by-complete, members_inside-complete}
use Rattle.da_parse.proofs.SoundStmts.{same_line}

count-complete : (o : Option ℕ) (i r : List Tok) → IsCount o i r → sees m.Comma r ≡ false → count i ≡ Ok (o, r)
unfolding count
count-complete _ i r IsCount.no_count s = after_not m.Comma _ _ s
count-complete _ i r (IsCount.count {n} h a) s = behind_is _ _ h ∙ rw (number_is a) refl

first_of : {k : Mark} {i r : List Tok} (other : Mark) → At k i r → one_of k other i ≡ Ok (true, r)
unfolding one_of
first_of other h = behind_is _ _ h

second_of : (k : Mark) {other : Mark} {i r : List Tok} → same other k ≡ false → At other i r → one_of k other i ≡ Ok (false, r)
unfolding one_of
second_of k apart h = after_not k _ _ (not_seen k h apart) ∙ rw (expect_is h) refl

kind-complete : (k : ChannelKind) (i r : List Tok) → IsKind k i r → sees m.Channel r ≡ false → kind i ≡ Ok (k, r)
unfolding kind
kind-complete _ i r IsKind.no_kind s = after_not m.Channel _ _ s
kind-complete _ i r (IsKind.fifo_reliable h a b e) s = behind_is _ _ h ∙ rw (first_of m.Unordered a, first_of m.Unreliable b, expect_is e) refl
kind-complete _ i r (IsKind.unordered_reliable h a b e) s = behind_is _ _ h ∙ rw (second_of m.Fifo refl a, first_of m.Unreliable b, expect_is e) refl
kind-complete _ i r (IsKind.fifo_unreliable h a b e) s = behind_is _ _ h ∙ rw (first_of m.Unordered a, second_of m.Reliable refl b, expect_is e) refl
kind-complete _ i r (IsKind.unordered_unreliable h a b e) s = behind_is _ _ h ∙ rw (second_of m.Fifo refl a, second_of m.Reliable refl b, expect_is e) refl

-- the readers of a program are complete for what the grammar has where so many things are open, if anything may be opened there
pub record OuterCompletes (o : Outer) (room : ℕ → Room) (f : ℕ) (Parameter : Spelling Param) : Type 0 where
  pub param_shrinks : Shrinks Parameter
  pub allows : (t : List Tok) → room 0 t → o.place.may_open (length t) ≡ true
  pub types : (t : List Tok) → room 0 t → IsComplete Anything o.inner_ty (TypeIn room f 1)
  pub inside : (t : List Tok) → room 0 t → Completes o.inside.place (room 1) (deeper room f 2)
  pub members : (t : List Tok) → room 0 t → (ms : List Member) (i r : List Tok)
      → Ended (IsMember (room 1) (TypeIn room f 1) (IsParams Parameter) (IsPattern (room 1) (deeper room f 2)) (IsBlock (room 1) (deeper room f 2) (BodyIn room f 2))) ms i r → members o.inside i ≡ Ok (ms, r)

module _ (o : Outer) (room : ℕ → Room) (f : ℕ) (Parameter : Spelling Param) (completes : OuterCompletes o room f Parameter) where
  header_end-complete : {i r s q : List Tok} → At m.Colon i r → At m.Newline r s → Opens m.Indent (room 0) s q → header_end o i ≡ Ok (tt, q)
  unfolding header_end
  header_end-complete c l b = rw (expect_is c, expect_is l) (opening_is o.place.may_open completes.allows b)

  message-complete : (x : MessageDecl) (i r : List Tok) → IsMessage room f x i r → message o (reader.line i) (rest i) ≡ Ok (x, r)
  unfolding message
  message-complete _ i r (IsMessage.message {n} {xs} h a b l e) =
      ap (λ at. message o at (rest i)) (same_line i)
      ∙ rw (
        rest-At h,
        word_is a,
        opening_is o.place.may_open completes.allows b,
        closed-complete (completes.types _ (room-Opens b)) (TypeIn-shrinks room f 1) m.CloseParen begins_type (TypeIn-begins room f 1) refl refl (λ j q k. tt) (λ j q k. tt) [] xs _ _ l,
        expect_is e,
      ) refl

  class-complete : (x : ClassTree) (i r : List Tok) → IsClass room f Parameter x i r → class o (reader.line i) (rest i) ≡ Ok (x, r)
  unfolding class
  class-complete _ i r (IsClass.class {n} {ms} h a e p c l b d) =
      ap (λ at. class o at (rest i)) (same_line i)
      ∙ rw (rest-At h, word_is a, expect_is e, expect_is p, header_end-complete c l b, completes.members _ (room-Opens b) ms _ _ d) refl

  -- a line of `main` is read by its first token, at its line
  at_line : {k : Mark} (i : List Tok) {out : Reading MainLine} → mark i ≡ Some k → line_by o (sp.line i) (Some k) i ≡ out → main_line o i ≡ out
  unfolding main_line
  at_line {k} i is e = ap (λ z. line_by o (reader.line i) z i) is ∙ ap (λ at. line_by o at (Some k) i) (same_line i) ∙ e

  main_line-complete : (t : List Tok) → room 0 t → IsComplete Anything (main_line o) (IsMline (room 1) (deeper room f 2))
  unfolding new_line setup_line
  main_line-complete t some _ i r (IsMline.new {n} {c} {o = many} a h k b d l p e) _ =
      at_line i (mark-Named a) (taking_is (λ z. new_line o z (sp.line i)) a
      ∙ rw (expect_is h, expect_is k, opening_is o.inside.place.may_open (completes.inside t some).allows b, word_is d, count-complete many _ _ l (not_seen m.Comma p refl), expect_is p, expect_is e) refl)
  main_line-complete t some _ i r (IsMline.setup {n} {xs} h b a l p e) _ =
      at_line i (mark-At h) (past_is (setup_line o (sp.line i)) h
      ∙ rw (
        opening_is o.inside.place.may_open (completes.inside t some).allows b,
        word_is a,
        behind-complete ((completes.inside t some).disj _ (room-Opens b)) (deeper-shrinks room f 2).disj m.Comma (λ j q k. next-At goes_on_disj k) [] xs _ _ l (next-At goes_on_disj p) (not_seen m.Comma p refl),
        expect_is p,
        expect_is e,
      ) refl)

  main-complete : (ls : List MainLine) (i r : List Tok) → IsMain room f ls i r → main o i ≡ Ok (ls, r)
  unfolding main
  main-complete ls i r (IsMain.main d h b c k l a x) =
      rw (expect_is d, expect_is h, opening_is o.place.may_open completes.allows b, expect_is c, header_end-complete k l a)
      (ended-complete (main_line-complete _ (room-Opens b)) (IsMline-shrinks (room 1) (deeper room f 2) (deeper-shrinks room f 2))
      (λ z j q y. (never_seen begins_line m.Dedent j refl (IsMline-begins (room 1) (deeper room f 2) z j q y), tt)) (λ j q y. tt) ls _ r x)

  program_end-complete : (k : ChannelKind) (xs : List MessageDecl) (cs : List ClassTree) (ls : List MainLine) (i : List Tok) → IsMain room f ls i [] → program_end o k xs cs i ≡ Ok (record { kind = k; messages = xs; classes = cs; main = ls }, [])
  unfolding program_end
  program_end-complete k xs cs ls i a = rw (main-complete ls i [] a) refl

  mark-Main : {ls : List MainLine} {i r : List Tok} → IsMain room f ls i r → mark i ≡ Some m.Def
  mark-Main (IsMain.main d h b c k l a x) = mark-At d

  mark-Message : {x : MessageDecl} {i r : List Tok} → IsMessage room f x i r → mark i ≡ Some m.Message
  mark-Message (IsMessage.message h a b l e) = mark-At h

  mark-Class : {c : ClassTree} {i r : List Tok} → IsClass room f Parameter c i r → mark i ≡ Some m.Class
  mark-Class (IsClass.class h a e p c l b d) = mark-At h

  -- what follows the kind does not begin with `channel`
  no_channel : {xs : List MessageDecl} {cs : List ClassTree} {ls : List MainLine} {i r s : List Tok} → IsDecls room f Parameter xs cs i r → IsMain room f ls r s → sees m.Channel i ≡ false
  unfolding sees
  no_channel IsDecls.no_decl a = ap (is_mark m.Channel) (mark-Main a)
  no_channel (IsDecls.message x l) a = ap (is_mark m.Channel) (mark-Message x)
  no_channel (IsDecls.class c l) a = ap (is_mark m.Channel) (mark-Class c)

  -- one step, by the token that is next
  decls_step : {b : Mark} {out : Reading Tree} (k : ChannelKind) (n : ℕ) (xs : List MessageDecl) (cs : List ClassTree) (i : List Tok) → mark i ≡ Some b → decls_by o k (decls_from o k n) xs cs (Some b) i ≡ out → decls_from o k (suc n) xs cs i ≡ out
  unfolding decls_from
  decls_step k n xs cs i is e = ap (λ z. decls_by o k (decls_from o k n) xs cs z i) is ∙ e

  decls_over : (k : ChannelKind) (n : ℕ) (xs : List MessageDecl) (cs : List ClassTree) (i : List Tok) {out : Reading Tree} → mark i ≡ Some m.Def → program_end o k xs cs i ≡ out → decls_from o k n xs cs i ≡ out
  unfolding decls_from
  decls_over k zero xs cs i is e = e
  decls_over k (suc n) xs cs i is e = ap (λ z. decls_by o k (decls_from o k n) xs cs z i) is ∙ e

  decls_from-complete : (k : ChannelKind) (n : ℕ) (xs : List MessageDecl) (cs : List ClassTree) (ms : List MessageDecl) (ds : List ClassTree) (ls : List MainLine) (i r : List Tok) → IsDecls room f Parameter ms ds i r → IsMain room f ls r [] → length i ≤ n
      → decls_from o k n xs cs i ≡ Ok (record { kind = k; messages = xs ++ ms; classes = cs ++ ds; main = ls }, [])
  decls_from-complete k n xs cs _ _ ls i r IsDecls.no_decl a turns =
      decls_over k n xs cs i (mark-Main a) (program_end-complete k xs cs ls i a)
      ∙ ap (λ z. Ok (record { kind = k; messages = z; classes = cs; main = ls }, [])) (sym (append-nil xs)) ∙ ap (λ z. Ok (record { kind = k; messages = xs ++ []; classes = z; main = ls }, [])) (sym (append-nil cs))
  decls_from-complete k zero xs cs _ _ ls i r (IsDecls.message x l) a turns = absurd (omega (arith, IsMessage-shrinks room f _ _ _ x))
  decls_from-complete k (suc n) xs cs _ ds ls i r (IsDecls.message {x} {xs = ms} h l) a turns =
      decls_step k n xs cs i (mark-Message h) (rw (message-complete x i _ h) (decls_from-complete k n (xs ++ x ∷ []) cs ms ds ls _ r l a (omega (arith, IsMessage-shrinks room f _ _ _ h))
      ∙ ap (λ z. Ok (record { kind = k; messages = z; classes = cs ++ ds; main = ls }, [])) (append_assoc xs (x ∷ []) ms)))
  decls_from-complete k zero xs cs _ _ ls i r (IsDecls.class c l) a turns = absurd (omega (arith, IsClass-shrinks room f Parameter completes.param_shrinks _ _ _ c))
  decls_from-complete k (suc n) xs cs ms _ ls i r (IsDecls.class {c} {cs = ds} h l) a turns =
      decls_step k n xs cs i (mark-Class h) (rw (class-complete c i _ h) (decls_from-complete k n xs (cs ++ c ∷ []) ms ds ls _ r l a (omega (arith, IsClass-shrinks room f Parameter completes.param_shrinks _ _ _ h))
      ∙ ap (λ z. Ok (record { kind = k; messages = xs ++ ms; classes = z; main = ls }, [])) (append_assoc cs (c ∷ []) ds)))

  pub program-complete : (x : Tree) (i : List Tok) → IsProgram room f Parameter x i → program o i ≡ Ok (x, [])
  unfolding program decls
  program-complete _ i (IsProgram.program {k} {xs} {cs} {ls} h l a) = rw (kind-complete k i _ h (no_channel l a)) (decls_from-complete k (length _) [] [] xs cs ls _ _ l a (omega arith))

-- by a rule of how many things may be open, which allows all that the grammar allows
module _ (limit : Limit) (room : ℕ → Room) (allows : (d : ℕ) (t : List Tok) → room d t → limit d (length t) ≡ true) where
  outer_complete : (param : Reader Param) (Parameter : Spelling Param) → Shrinks Parameter → (g f : ℕ) → Enough room (suc g) f 0
      → ((t : List Tok) → room 0 t → ParamCompletes (room 1) param Parameter) → OuterCompletes (outer_in limit param f) room g Parameter
  outer_complete param Parameter param_shrinks g f e param_completes = record {
    param_shrinks = param_shrinks;
    allows = (place-complete limit room allows g f 0 (enough_fewer room g f 0 e)).allows;
    types = types-complete limit room allows g f 0 (enough_fewer room g f 0 e);
    inside = λ t some. place-complete limit room allows g (f - 1) 1 (enough_below room g f 0 t some e);
    members = λ t some. members_inside-complete limit room allows param Parameter (param_completes t some) g (f - 1) (enough_below room g f 0 t some e);
  }

  complete_by : (loose : Bool) (g f : ℕ) → Enough room (suc g) f 0 → OuterCompletes (outer_by loose limit f) room g (ParameterBy loose room g)
  complete_by loose g f e =
      outer_complete (param_by loose (types limit (f - 1) 2)) (ParameterBy loose room g) (ParamBy-shrinks loose (TypeIn room g 2) (TypeIn-shrinks room g 2)) g f e
      (λ t some. params_by-complete limit room allows loose g (f - 1) (enough_below room g f 0 t some e))

  -- Inside a class the grammar has g more where the reader has one less than outside, so the reader needs one more than the grammar.
  pub program_in-complete : (loose : Bool) (g f : ℕ) → (suc g ≤ f) ⊎ ((t : List Tok) → room f t → ⊥) → (x : Tree) (i : List Tok) → IsProgramBy loose room g x i → program (outer_by loose limit f) i ≡ Ok (x, [])
  program_in-complete loose g f enough x i h =
      let same : 0 + f ≡ f = omega arith in
      program-complete (outer_by loose limit f) room g (ParameterBy loose room g) (complete_by loose g f (subst (λ n. (suc g ≤ f) ⊎ ((t : List Tok) → room n t → ⊥)) (sym same) enough)) x i h
