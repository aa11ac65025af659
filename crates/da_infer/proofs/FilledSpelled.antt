-- Some tokens spell each program with types for what has none.
use Rattle.std.specs.Prelude.{◌≡◌, refl, ℕ, zero, suc, ◌+◌, ◌*◌, ◌≤◌, true, List, [], ◌∷◌, ◌++◌, length, map, drop, take, sum, codes}
use Rattle.std.specs.List.{All, AllByRecursion}
use Rattle.std.proofs.Common.{◌∙◌, ap, sym, subst, arith}
use Rattle.std.proofs.lemmas.List.Elements.{All-cons, All-nil}
use Rattle.da_values.specs.declared.token.Mark.TheVariants as m
use Rattle.da_values.specs.Marks.{Tok}
use Rattle.da_lang.specs.declared.tree.ClassTree.{ClassTree}
use Rattle.da_lang.specs.declared.tree.Member.{Member}
use Rattle.da_lang.specs.declared.tree.MessageDecl.{MessageDecl}
use Rattle.da_lang.specs.declared.tree.Tree.{Tree}
use Rattle.da_lang.specs.declared.ty.Ty.{Ty}
use Rattle.da_lang.specs.Grammar as gr
use Rattle.da_lang.specs.Grammar.{IsMessage, IsClass, IsDecls, IsProgram}
use Rattle.da_lang.specs.Spelling as g
use Rattle.da_lang.specs.Spelling.{Room, IsSpelled, Ended}
use Rattle.da_parse.specs.Loose.{given_member, given_class, given_tree}
use Rattle.added_names.specs.declared.added.OpenPlace.{OpenPlace}
use Rattle.added_names.specs.Changes.{Changes, added_variables}
use Rattle.added_names.specs.Filled.{Left, Loose, next_type, filled_from, left_from, member_filled, member_left, variable_lines, types_after_variables, after_variables, class_filled, class_left, message_lines, types_after_tags, after_tags, filled}
use Rattle.added_names.specs.StmtTags.{added_tags}
use Rattle.added_names.specs.Tags.{Tags}
use Rattle.da_infer.proofs.AddedLines.{are_in, parts_in_lines}
use Rattle.da_infer.proofs.MovedLists.{Free, here, more, join, closed_moves, Moves, moved}
use Rattle.da_infer.proofs.MovedExprs.{type_moves}
use Rattle.da_infer.proofs.MovedStmts.{main_moves, kind_moves}
use Rattle.da_infer.proofs.Placed.{Have, have_drop, have_take, have_next, take_few, closed_placed}
use Rattle.da_infer.proofs.SpelledWords.{AreWords, tok_of, name_spelled, var_spelled, message_spelled, colon_spelled, open_paren_spelled, newline_spelled}
use Rattle.da_infer.proofs.TagNames.{AreNames}
use Rattle.da_infer.proofs.Grown.{Grows, grows, grow_more, Grown, grown, LooseOne, TypedOne, TypedMember, has_members, members_grow}

-- at most so many tokens more before u spell something up to s
pub record Put (Z : List Tok → List Tok → Type 0) (most : ℕ) (u s : List Tok) : Type 0 where
  pub now : List Tok
  pub spelled : Z now s
  pub all : All IsSpelled u → All IsSpelled now
  pub few : length now ≤ most + length u

-- with so many things more before what has grown
grow_put : {Z : List Tok → List Tok → Type 0} {t r u s : List Tok} (most : ℕ) → Grows t r u s 0 → (p : Put Z most u s) → Grows t r p.now s most
grow_put most a p = record { all = λ b c. p.all (a.all b c); rest = a.rest; size = omega (arith, a.size, p.few) }

have_after : (size : ℕ) (vs : Changes) (types : List Ty) → Have size types → Have size (types_after_variables vs types)
unfolding types_after_variables
have_after size [] types has = has
have_after size (v ∷ vs) types has = have_after size vs (drop 1 types) (have_drop size 1 types has)

abbrev Members : ℕ → List Member → List Tok → List Tok → Type 0
Members size = Ended (TypedMember size)

abbrev Decls : ℕ → List MessageDecl → List ClassTree → List Tok → List Tok → Type 0
Decls size = IsDecls (λ d. Free) size (TypedOne size)

-- a program that some tokens spell: so many, where so many spelled the one before
pub record Whole (size : ℕ) (u : Tree) (i : List Tok) (count : ℕ) : Type 0 where
  pub tokens : List Tok
  pub all : All IsSpelled i → All IsSpelled tokens
  pub few : length tokens ≤ 514 * length i + 1029 * count
  pub spelled : IsProgram (λ d. Free) size (TypedOne size) u tokens

module _ (room : ℕ → Room) (f size : ℕ) (fits : f ≤ size) (some : 1 ≤ size) where
  -- ---- the lines of variables

  variables_put : (vs : Changes) (types : List Ty) → AreWords vs → Have size types → (xs : List Member) (u s : List Tok) → Members size xs u s → Put (Members size (variable_lines vs types ++ xs)) (1029 * length vs) u s
  unfolding variable_lines
  variables_put [] types named has xs u s h = record { now = u; spelled = h; all = λ a. a; few = omega arith }
  variables_put (v ∷ vs) types named has xs u s h =
      let b = variables_put vs (drop 1 types) named.1 (have_drop size 1 types has) xs u s h in
      let z = tok_of v.line m.Newline [] in
      let a = (have_next size some types has).places 1 (z ∷ b.now) in
      let c = tok_of v.line m.Colon (codes ":") in
      let n = tok_of v.line m.Name v.name in
      let w = tok_of v.line m.Var (codes "var") in
      record {
        now = w ∷ n ∷ c ∷ a.now;
        spelled = g.Ended.goes_on (gr.IsMember.var {t = w ∷ n ∷ c ∷ a.now} (g.At.at refl) (g.Named.named {t = n} refl) (g.At.at refl) a.spelled (g.At.at refl)) b.spelled;
        all = λ y. All-cons IsSpelled w (n ∷ c ∷ a.now) (var_spelled v.line) (All-cons IsSpelled n (c ∷ a.now) (named.0 v.line)
            (All-cons IsSpelled c a.now (colon_spelled v.line) (a.all (All-cons IsSpelled z b.now (newline_spelled v.line) (b.all y)))));
        few = omega (arith, a.few, b.few);
      }

  -- ---- classes

  class_grows : (at : ℕ) (c : ClassTree) (left : Left) (t r : List Tok) → IsClass room f (LooseOne room f) c t r → AreWords (added_variables (given_class c)) → Have size left.types → (s : List Tok)
      → Grown (IsClass (λ d. Free) size (TypedOne size) (class_filled at (given_class c) left)) t r s (1029 * length (added_variables (given_class c)))
  unfolding class_filled
  class_grows at _ left t r (gr.IsClass.class {ms} (g.At.at {t = a} e) (g.Named.named {t = w} i) (g.At.at j) (g.At.at k) (g.At.at l) (g.At.at n) (g.Opens.opens o (g.At.at p)) q) named has s =
      let vs = added_variables (given_class (record { name = w.text; members = ms; line = a.line })) in
      let inside = members_grow room f size fits some at 0 ms (after_variables vs left) _ _ q (have_after size vs left.types has) s in
      let all = variables_put vs left.types named has (filled_from (member_filled at) (member_left at) 0 (map given_member ms) (after_variables vs left)) inside.now s inside.spelled in
      grown (grow_more (grow_more (grow_more (grow_more (grow_more (grow_more (grow_more (grow_put (1029 * length vs) inside.grows all))))))))
      (gr.IsClass.class (g.At.at e) (g.Named.named i) (g.At.at j) (g.At.at k) (g.At.at l) (g.At.at n) (g.Opens.opens tt (g.At.at p)) all.spelled)

  has_class : (at : ℕ) (c : ClassTree) (left : Left) → Have size left.types → Have size (class_left at c left).types
  unfolding class_left
  has_class at c left has = has_members room f size fits some at 0 c.members (after_variables (added_variables c) left) (have_after size (added_variables c) left.types has)

  -- ---- declarations

  pub message_moves : Moves (IsMessage room f) (IsMessage (λ d. Free) size)
  message_moves _ t r (gr.IsMessage.message {xs} (g.At.at e) (g.Named.named i) (g.Opens.opens o (g.At.at j)) l (g.At.at {t = z} k)) s =
      let a = closed_moves (type_moves room f 1 size 1 fits) m.CloseParen xs _ _ l (z ∷ s) in
      moved (more (more (more (join a.along (more here))))) (gr.IsMessage.message (g.At.at e) (g.Named.named i) (g.Opens.opens tt (g.At.at j)) a.spelled (g.At.at k))

  -- the lines of tags, after all others
  messages_put : (xs : Tags) (types : List Ty) → AreNames xs → Have size types → (s : List Tok) → Put (Decls size (message_lines xs types) []) (1029 * parts_in_lines xs) s s
  unfolding message_lines
  messages_put [] types named has s = record { now = s; spelled = gr.IsDecls.no_decl; all = λ a. a; few = omega arith }
  messages_put (x ∷ xs) types named has s =
      let b = messages_put xs (drop x.parts types) named.1 (have_drop size x.parts types has) s in
      let z = tok_of x.line m.Newline [] in
      let a = closed_placed size (take x.parts types) (have_take size x.parts types has) (z ∷ b.now) in
      let o = tok_of x.line m.OpenParen (codes "(") in
      let n = tok_of x.line m.Name x.tag in
      let w = tok_of x.line m.Message (codes "message") in
      let whole : parts_in_lines (x ∷ xs) ≡ suc x.parts + parts_in_lines xs = refl in
      record {
        now = w ∷ n ∷ o ∷ a.now;
        spelled = gr.IsDecls.message (gr.IsMessage.message {t = w ∷ n ∷ o ∷ a.now} (g.At.at refl) (g.Named.named {t = n} refl) (g.Opens.opens tt (g.At.at refl)) a.spelled (g.At.at refl)) b.spelled;
        all = λ y. All-cons IsSpelled w (n ∷ o ∷ a.now) (message_spelled x.line) (All-cons IsSpelled n (o ∷ a.now) (name_spelled x.line x.tag named.0)
            (All-cons IsSpelled o a.now (open_paren_spelled x.line) (a.all (All-cons IsSpelled z b.now (newline_spelled x.line) (b.all y)))));
        few = omega (arith, a.few, b.few, take_few x.parts types, whole);
      }

  have_tags : (xs : Tags) (types : List Ty) → Have size types → Have size (types_after_tags xs types)
  unfolding types_after_tags
  have_tags [] types has = has
  have_tags (x ∷ xs) types has = have_tags xs (drop x.parts types) (have_drop size x.parts types has)

  -- all declarations, with messages after them
  decls_grow : (at : ℕ) (xs : List MessageDecl) (cs : List ClassTree) (left : Left) (t r : List Tok) → IsDecls room f (LooseOne room f) xs cs t r
      → AllByRecursion (λ c. AreWords (added_variables c)) (map given_class cs) → Have size left.types → (ys : List MessageDecl) (s : List Tok) (count : ℕ) → Put (Decls size ys []) (1029 * count) s s
      → Grown (Decls size (xs ++ ys) (filled_from class_filled class_left at (map given_class cs) left)) t r s (1029 * (count + are_in (map given_class cs)))
  unfolding filled_from
  decls_grow at _ _ left t r gr.IsDecls.no_decl named has ys s count last = record {
    now = last.now;
    grows = record { all = λ a b. last.all b; rest = λ a. a; size = (let none : are_in [] ≡ 0 = refl in omega (arith, last.few, none)) };
    spelled = last.spelled;
  }
  decls_grow at _ cs left t r (gr.IsDecls.message {x} {xs} h l) named has ys s count last =
      let b = decls_grow at xs cs left _ _ l named has ys s count last in
      let a = message_moves x _ _ h b.now in
      record {
        now = a.now;
        grows = record {
          all = λ y z. a.along.all y (b.grows.all (a.along.rest y) z);
          rest = λ y. b.grows.rest (a.along.rest y);
          size = omega (arith, a.along.size, a.along.shorter, b.grows.size);
        };
        spelled = gr.IsDecls.message a.spelled b.spelled;
      }
  decls_grow at xs _ left t r (gr.IsDecls.class {c} {cs} h l) named has ys s count last =
      let b = decls_grow (at + 1) xs cs (class_left at (given_class c) left) _ _ l named.1 (has_class at (given_class c) left has) ys s count last in
      let a = class_grows at c left _ _ h named.0 has b.now in
      let all : are_in (given_class c ∷ map given_class cs) ≡ length (added_variables (given_class c)) + are_in (map given_class cs) = refl in
      record {
        now = a.now;
        grows = record {
          all = λ y z. a.grows.all y (b.grows.all (a.grows.rest y) z);
          rest = λ y. b.grows.rest (a.grows.rest y);
          size = omega (arith, a.grows.size, b.grows.size, all);
        };
        spelled = gr.IsDecls.class a.spelled b.spelled;
      }

  -- ---- programs

  pub program_grows : (tree : Tree) (places : List OpenPlace) (types : List Ty) (i : List Tok) → IsProgram room f (LooseOne room f) tree i → AreNames (added_tags (given_tree tree))
      → AllByRecursion (λ c. AreWords (added_variables c)) (map given_class tree.classes) → Have size types
      → Whole size (filled (record { tree = given_tree tree; untyped = places }) types) i (parts_in_lines (added_tags (given_tree tree)) + are_in (map given_class tree.classes))
  unfolding filled
  program_grows _ places types i (gr.IsProgram.program {k} {xs} {cs} {ls} a b c) named names has =
      let tags = added_tags (given_tree (record { kind = k; messages = xs; classes = cs; main = ls })) in
      let d = main_moves room f size fits ls _ _ c [] in
      let e = decls_grow 0 xs cs (after_tags tags (record { places = places; types = types })) _ _ b names (have_tags tags types has) (message_lines tags types) d.now (parts_in_lines tags) (messages_put tags types named has d.now) in
      let h = kind_moves k _ _ a e.now in
      record {
        tokens = h.now;
        all = λ z. h.along.all z (e.grows.all (h.along.rest z) (d.along.all (e.grows.rest (h.along.rest z)) (All-nil IsSpelled)));
        few = omega (arith, h.along.size, h.along.shorter, e.grows.size, d.along.size);
        spelled = gr.IsProgram.program h.spelled e.spelled d.spelled;
      }
