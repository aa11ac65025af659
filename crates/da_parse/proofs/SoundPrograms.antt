-- What is read as a program is spelled so.
use Rattle.std.proofs.Common.{◌≡◌, ℕ, zero, suc, ◌-◌, ◌≤◌, Bool, true, false, List, [], ◌∷◌, ◌++◌, length, Option, Some, None, Ok, refl, sym, ap, ◌∙◌, subst, arith, inl, inr, append_assoc, append-nil}
use Rattle.std.specs.Prelude.{◌==◌}
use Rattle.da_values.specs.declared.token.Mark.{Mark}
use Rattle.da_values.specs.declared.token.Mark.TheVariants as m
use Rattle.da_values.specs.Marks.{Tok}
use Rattle.da_lang.specs.declared.tree.ClassTree.{ClassTree}
use Rattle.da_lang.specs.declared.tree.MainLine.{MainLine}
use Rattle.da_lang.specs.declared.tree.MessageDecl.{MessageDecl}
use Rattle.da_lang.specs.declared.tree.Param.{Param}
use Rattle.da_lang.specs.declared.tree.Tree.{Tree}
use Rattle.da_lang.specs.declared.ty.ChannelKind.{ChannelKind}
use Rattle.da_lang.specs.declared.ty.ChannelKind.TheVariants as kind_of
use Rattle.da_lang.specs.Spelling as sp
use Rattle.da_lang.specs.Spelling.{Spelling, Room, At, Opens, Named, Number, Separated, Closed, EachAfter, Ended}
use Rattle.da_lang.specs.TypeGrammar.{TypeIn}
use Rattle.da_lang.specs.ExprGrammar.{IsPattern, deeper}
use Rattle.da_lang.specs.StmtGrammar.{IsBlock, BodyIn}
use Rattle.da_lang.specs.Grammar as g
use Rattle.da_lang.specs.Grammar.{IsParam, IsFrom, IsAt, IsMember, IsCount, IsMline, IsKind, IsTypes, IsParams, IsMessage, IsClass, IsDecls, IsMain, IsProgram}
use Rattle.da_phrases.specs.declared.place.Level.TheVariants as level
use Rattle.da_phrases.specs.Reader as reader
use Rattle.da_phrases.specs.Reader.{mark, text, rest, sees, Reading, Reader, continued, ◌>>=◌, ◌>>◌, pure, refuse, expect, word, number}
use Rattle.da_phrases.specs.Lists.{begun, closed}
use Rattle.da_phrases.specs.Place.{Limit, at_most_32}
use Rattle.da_phrases.specs.Types.{types, type_at, type_below}
use Rattle.da_phrases.specs.Exprs.{at_depth}
use Rattle.da_parse.specs.Stmts.{block_at, body_below}
use Rattle.da_parse.specs.Members.{param_by, members}
use Rattle.da_parse.specs.Parameters.{ParameterBy, IsProgramBy}
use Rattle.da_parse.specs.Programs.{Outer, outer_in, outer_by, outermost, count, kind_from, one_of, kind, finish, header_end, message, class, new_line, argument, setup_line, line_by, main_line, main, program_end, decls_by, decls_from, decls, program}
use Rattle.da_phrases.proofs.Steps.{chosen_value, after_ok, number_ok, opening_ok, left, At-mark, Named-mark}
use Rattle.da_phrases.proofs.SoundSteps.{reads, made, passes, names, opening_by}
use Rattle.da_phrases.proofs.SoundTypes.{types-sound}
use Rattle.da_phrases.proofs.ListSound.{all_closed, all_behind, ended-sound}
use Rattle.da_parse.proofs.SoundStmts.{same_line}
use Rattle.da_parse.proofs.SoundMembers.{param_by-sound, members_there-sound}
use Rattle.da_phrases.proofs.SoundPlaces.{places-sound}
use Rattle.da_phrases.proofs.Laws.{IsSound, Sounds}

count-sound : IsSound count IsCount
unfolding count
count-sound i y e = elim (after_ok m.Comma (number >>= λ n. pure (Some n)) (pure None) i y e) [
  | inl h ↦ (
      reads (number h.0) _ y h.2 (λ u after_u read last.
      made IsCount i y last (g.count h.1 (number_ok h.0 (u, after_u) read))))
  | inr h ↦ made IsCount i y h.1 g.no_count
]

-- one of two tokens
abbrev OneOf : Mark → Mark → Bool → List Tok → List Tok → Type 0
OneOf k other true i r = At k i r
OneOf k other false i r = At other i r

one_of-sound : (k other : Mark) → IsSound (one_of k other) (OneOf k other)
unfolding one_of
one_of-sound k other i y e = elim (after_ok k (pure true) (expect other >> pure false) i y e) [
  | inl h ↦ made (OneOf k other) i y h.2 h.1
  | inr h ↦ (
      passes other i _ y h.1 (λ after_u passed last.
      made (OneOf k other) i y last passed))
]

kinds : (fifo reliable : Bool) (t r s q z : List Tok) → At m.Channel t r → OneOf m.Fifo m.Unordered fifo r s → OneOf m.Reliable m.Unreliable reliable s q → At m.Newline q z → IsKind (kind_from fifo reliable) t z
kinds true true t r s q z a b c d = g.fifo_reliable a b c d
kinds true false t r s q z a b c d = g.fifo_unreliable a b c d
kinds false true t r s q z a b c d = g.unordered_reliable a b c d
kinds false false t r s q z a b c d = g.unordered_unreliable a b c d

kind-sound : IsSound kind IsKind
unfolding kind
kind-sound i y e = elim (after_ok m.Channel (one_of m.Fifo m.Unordered >>= λ fifo. one_of m.Reliable m.Unreliable >>= λ reliable. expect m.Newline >> pure (kind_from fifo reliable)) (pure kind_of.UnorderedUnreliable) i y e) [
  | inl h ↦ (
      let (r, there, e1) = h in
      reads (one_of m.Fifo m.Unordered r) _ y e1 (λ u after_u fifo e2.
      reads (one_of m.Reliable m.Unreliable after_u) _ y e2 (λ v after_v reliable e3.
      passes m.Newline after_v _ y e3 (λ after_w over last.
      made IsKind i y last
      (kinds u v i r after_u after_v after_w there (one_of-sound m.Fifo m.Unordered r (u, after_u) fifo) (one_of-sound m.Reliable m.Unreliable after_u (v, after_v) reliable) over)))))
  | inr h ↦ made IsKind i y h.1 g.no_kind
]

none_left : (i : List Tok) → (length i == 0) ≡ true → i ≡ []
none_left [] e = refl
none_left (t ∷ r) e = let never : ⊥ = grind (arith, e) in absurd never

finish-sound : (i : List Tok) (y : Unit {0} × List Tok) → finish i ≡ Ok y → (i ≡ []) × (y.1 ≡ [])
finish-sound i y e = elim (chosen_value (length i == 0) (Ok (tt, i)) (refuse i) (Ok y) e) [
  | inl h ↦ (none_left i h.0, sym (ap left h.1) ∙ none_left i h.0)
  | inr h ↦ cc
]

-- the readers of a program are sound for what the grammar has where so many things are open
pub record OuterSounds (o : Outer) (room : ℕ → Room) (f : ℕ) (Parameter : Spelling Param) : Type 0 where
  pub fits : (t : List Tok) → o.place.may_open (length t) ≡ true → room 0 t
  pub types : IsSound o.inner_ty (TypeIn room f 1)
  pub inside : Sounds o.inside.place (room 1) (deeper room f 2)
  pub members : IsSound (members o.inside) (Ended (IsMember (room 1) (TypeIn room f 1) (IsParams Parameter) (IsPattern (room 1) (deeper room f 2)) (IsBlock (room 1) (deeper room f 2) (BodyIn room f 2))))

module _ (o : Outer) (room : ℕ → Room) (f : ℕ) (Parameter : Spelling Param) (sounds : OuterSounds o room f Parameter) where
  header_end-sound : (i : List Tok) (y : Unit {0} × List Tok) → header_end o i ≡ Ok y → (r : List Tok) × (s : List Tok) × At m.Colon i r × At m.Newline r s × Opens m.Indent (room 0) s y.1
  unfolding header_end
  header_end-sound i y e =
      passes m.Colon i _ y e (λ after_u colon e1.
      passes m.Newline after_u _ y e1 (λ after_v over e2.
      (after_u, after_v, colon, over, opening_ok o.place.may_open (room 0) sounds.fits m.Indent after_v y e2)))

  pub message-sound : (t i : List Tok) (y : MessageDecl × List Tok) → At m.Message t i → message o (sp.line t) i ≡ Ok y → IsMessage room f y.0 t y.1
  unfolding message
  message-sound t i y there e =
      names i _ y e (λ u after_u name e1.
      opening_by o.place.may_open (room 0) sounds.fits m.OpenParen after_u _ y e1 (λ after_v opened e2.
      reads (closed m.CloseParen o.inner_ty [] after_v) _ y e2 (λ w after_w read e3.
      passes m.Newline after_w _ y e3 (λ after_x over last.
      made (IsMessage room f) t y last
      (g.IsMessage.message there name opened (all_closed m.CloseParen o.inner_ty (TypeIn room f 1) sounds.types after_v (w, after_w) read) over)))))

  pub class-sound : (t i : List Tok) (y : ClassTree × List Tok) → At m.Class t i → class o (sp.line t) i ≡ Ok y → IsClass room f Parameter y.0 t y.1
  unfolding class
  class-sound t i y there e =
      names i _ y e (λ u after_u name e1.
      passes m.Extends after_u _ y e1 (λ after_v extends e2.
      passes m.Process after_v _ y e2 (λ after_w process e3.
      reads (header_end o after_w) _ y e3 (λ x after_x header e4.
      reads (members o.inside after_x) _ y e4 (λ k after_k read last.
      let (a, b, colon, over, opened) = header_end-sound after_w (x, after_x) header in
      made (IsClass room f Parameter) t y last
      (g.IsClass.class there name extends process colon over opened (sounds.members after_x (k, after_k) read)))))))

  new_line-sound : (n : List ℕ) (t i : List Tok) (y : MainLine × List Tok) → Named n t i → new_line o n (sp.line t) i ≡ Ok y → IsMline (room 1) (deeper room f 2) y.0 t y.1
  unfolding new_line
  new_line-sound n t i y name e =
      passes m.Assign i _ y e (λ after_u is e1.
      passes m.New after_u _ y e1 (λ after_v new e2.
      opening_by o.inside.place.may_open (room 1) sounds.inside.fits m.OpenParen after_v _ y e2 (λ after_w opened e3.
      names after_w _ y e3 (λ x after_x class e4.
      reads (count after_x) _ y e4 (λ k after_k many e5.
      passes m.CloseParen after_k _ y e5 (λ after_l close e6.
      passes m.Newline after_l _ y e6 (λ after_j over last.
      made (IsMline (room 1) (deeper room f 2)) t y last
      (g.new name is new opened class (count-sound after_x (k, after_k) many) close over))))))))

  setup_line-sound : (t i : List Tok) (y : MainLine × List Tok) → At m.Setup t i → setup_line o (sp.line t) i ≡ Ok y → IsMline (room 1) (deeper room f 2) y.0 t y.1
  unfolding setup_line
  setup_line-sound t i y there e =
      opening_by o.inside.place.may_open (room 1) sounds.inside.fits m.OpenParen i _ y e (λ after_u opened e1.
      names after_u _ y e1 (λ v after_v name e2.
      reads (begun m.Comma (argument o) [] after_v) _ y e2 (λ w after_w read e3.
      passes m.CloseParen after_w _ y e3 (λ after_x close e4.
      passes m.Newline after_x _ y e4 (λ after_k over last.
      made (IsMline (room 1) (deeper room f 2)) t y last
      (g.IsMline.setup there opened name
      (all_behind m.Comma (o.inside.place.expr level.Disj) (deeper room f 2).disj sounds.inside.disj after_v (w, after_w) read) close over))))))

  line_by-sound : (k : Option Mark) (i : List Tok) (y : MainLine × List Tok) → mark i ≡ k → line_by o (sp.line i) k i ≡ Ok y → IsMline (room 1) (deeper room f 2) y.0 i y.1
  line_by-sound (Some m.Name) i y is e = new_line-sound (text i) i (rest i) y (Named-mark i is) e
  line_by-sound (Some m.Setup) i y is e = setup_line-sound i (rest i) y (At-mark m.Setup i is) e
  line_by-sound _ i y is e = cc

  pub main_line-sound : IsSound (main_line o) (IsMline (room 1) (deeper room f 2))
  unfolding main_line
  main_line-sound i y e = line_by-sound (mark i) i y refl (subst (λ at. line_by o at (mark i) i ≡ Ok y) (same_line i) e)

  main-sound : IsSound (main o) (IsMain room f)
  unfolding main
  main-sound i y e =
      passes m.Def i _ y e (λ after_u def e1.
      passes m.Main after_u _ y e1 (λ after_v there e2.
      opening_by o.place.may_open (room 0) sounds.fits m.OpenParen after_v _ y e2 (λ after_w opened e3.
      passes m.CloseParen after_w _ y e3 (λ after_x close e4.
      reads (header_end o after_x) _ y e4 (λ k after_k header e5.
      let (a, b, colon, over, begun) = header_end-sound after_x (k, after_k) header in
      g.main def there opened close colon over begun
      (ended-sound (main_line o) (IsMline (room 1) (deeper room f 2)) main_line-sound after_k y e5))))))

  -- a program whose kind, messages and classes so far are known: the further ones are spelled here, then `main`, and nothing is left
  abbrev Rest : ChannelKind → List MessageDecl → List ClassTree → List Tok → Tree × List Tok → Type 0
  Rest k xs cs i y = (ms : List MessageDecl) × (ds : List ClassTree) × (ls : List MainLine) × (r : List Tok)
      × (y.0 ≡ record { kind = k; messages = xs ++ ms; classes = cs ++ ds; main = ls }) × IsDecls room f Parameter ms ds i r × IsMain room f ls r [] × (y.1 ≡ [])

  program_end-sound : (k : ChannelKind) (xs : List MessageDecl) (cs : List ClassTree) (i : List Tok) (y : Tree × List Tok) → program_end o k xs cs i ≡ Ok y → Rest k xs cs i y
  unfolding program_end
  program_end-sound k xs cs i y e =
      reads (main o i) _ y e (λ ls rest_of read e1.
      reads (finish rest_of) _ y e1 (λ u end done last.
      let (over, ended_there) = finish-sound rest_of (u, end) done in
      ([], [], ls, i, cc (append-nil xs, append-nil cs), g.no_decl, subst (IsMain room f ls i) over (main-sound i (ls, rest_of) read), sym (ap left last) ∙ ended_there)))

module _ (o : Outer) (room : ℕ → Room) (f : ℕ) (Parameter : Spelling Param) (sounds : OuterSounds o room f Parameter) (k : ChannelKind) where
  -- one step, where the steps after it are sound
  decls_by-sound : (rest_of : List MessageDecl → List ClassTree → Reader Tree)
      (next : (xs : List MessageDecl) (cs : List ClassTree) (i : List Tok) (y : Tree × List Tok) → rest_of xs cs i ≡ Ok y → Rest o room f Parameter sounds k xs cs i y)
      (xs : List MessageDecl) (cs : List ClassTree) (b : Option Mark) (i : List Tok) (y : Tree × List Tok) → mark i ≡ b → decls_by o k rest_of xs cs b i ≡ Ok y → Rest o room f Parameter sounds k xs cs i y
  decls_by-sound rest_of next xs cs (Some m.Message) i y is e =
      reads (message o (reader.line i) (rest i)) _ y e (λ u after_u read e1.
      let x = message-sound o room f Parameter sounds i (rest i) (u, after_u) (At-mark m.Message i is) (subst (λ at. message o at (rest i) ≡ Ok (u, after_u)) (same_line i) read) in
      let (ms, ds, ls, r, whole, ones, end, over) = next (xs ++ u ∷ []) cs after_u y e1 in
      (u ∷ ms, ds, ls, r, whole ∙ ap (λ z. record { kind = k; messages = z; classes = cs ++ ds; main = ls }) (append_assoc xs (u ∷ []) ms), g.IsDecls.message x ones, end, over))
  decls_by-sound rest_of next xs cs (Some m.Class) i y is e =
      reads (class o (reader.line i) (rest i)) _ y e (λ u after_u read e1.
      let c = class-sound o room f Parameter sounds i (rest i) (u, after_u) (At-mark m.Class i is) (subst (λ at. class o at (rest i) ≡ Ok (u, after_u)) (same_line i) read) in
      let (ms, ds, ls, r, whole, ones, end, over) = next xs (cs ++ u ∷ []) after_u y e1 in
      (ms, u ∷ ds, ls, r, whole ∙ ap (λ z. record { kind = k; messages = xs ++ ms; classes = z; main = ls }) (append_assoc cs (u ∷ []) ds), g.IsDecls.class c ones, end, over))
  decls_by-sound rest_of next xs cs _ i y is e = program_end-sound o room f Parameter sounds k xs cs i y e

  decls_from-sound : (n : ℕ) (xs : List MessageDecl) (cs : List ClassTree) (i : List Tok) (y : Tree × List Tok) → decls_from o k n xs cs i ≡ Ok y → Rest o room f Parameter sounds k xs cs i y
  unfolding decls_from
  decls_from-sound zero xs cs i y e = program_end-sound o room f Parameter sounds k xs cs i y e
  decls_from-sound (suc n) xs cs i y e = decls_by-sound (decls_from o k n) (decls_from-sound n) xs cs (mark i) i y refl e

-- what is read as a program is spelled so, and nothing is left
pub program-sound : (o : Outer) (room : ℕ → Room) (f : ℕ) (Parameter : Spelling Param) → OuterSounds o room f Parameter → (i : List Tok) (y : Tree × List Tok) → program o i ≡ Ok y → IsProgram room f Parameter y.0 i × (y.1 ≡ [])
unfolding program decls
program-sound o room f Parameter sounds i y e =
    reads (kind i) _ y e (λ u after_u read e1.
    let (ms, ds, ls, r, whole, ones, end, over) = decls_from-sound o room f Parameter sounds u (length after_u) [] [] after_u y e1 in
    (subst (λ z. IsProgram room f Parameter z i) (sym whole) (g.program (kind-sound i (u, after_u) read) ones end), over))

-- by a rule of how many things may be open, which allows no more than that of the grammar
module _ (limit : Limit) (room : ℕ → Room) (fits : (d : ℕ) (t : List Tok) → limit d (length t) ≡ true → room d t) where
  pub outer_sound : (param : Reader Param) (Parameter : Spelling Param) → IsSound param Parameter → (f n : ℕ) → 1 ≤ f → f ≤ n → OuterSounds (outer_in limit param f) room n Parameter
  outer_sound param Parameter param_sound f n some few = record {
    fits = (places-sound limit room fits f n 0 few).fits;
    types = types-sound limit room fits f n 1 few;
    inside = places-sound limit room fits (f - 1) n 1 (omega (arith, few));
    members = members_there-sound limit room fits param Parameter param_sound (f - 1) n 1 (omega (arith, some, few));
  }

  -- where parameters may lack their types or may not
  pub program_in-sound : (loose : Bool) (f n : ℕ) → 1 ≤ f → f ≤ n → (i : List Tok) (y : Tree × List Tok) → program (outer_by loose limit f) i ≡ Ok y → IsProgramBy loose room n y.0 i × (y.1 ≡ [])
  program_in-sound loose f n some few i y e =
      let param = param_by loose (types limit (f - 1) 2) in
      let param_sound : IsSound param (ParameterBy loose room n) = param_by-sound loose (types limit (f - 1) 2) (TypeIn room n 2) (types-sound limit room fits (f - 1) n 2 (omega (arith, few))) in
      program-sound (outer_by loose limit f) room n (ParameterBy loose room n) (outer_sound param (ParameterBy loose room n) param_sound f n some few) i y e

-- the reader of the code is one of these
pub outermost_is : (loose : Bool) → outermost loose ≡ outer_by loose at_most_32 32
unfolding at_depth type_at type_below block_at body_below
outermost_is loose = refl
