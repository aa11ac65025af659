-- What is added to a program takes two tokens for each tag, each part after it and each variable, and the names of variables are tokens.
use Rattle.std.specs.Prelude.{◌≡◌, refl, ℕ, zero, suc, ◌+◌, ◌*◌, ◌≤◌, Bool, true, false, List, [], ◌∷◌, ◌++◌, length, map, flat_map, Option, Some, None}
use Rattle.std.specs.List.{All, AllByRecursion}
use Rattle.std.proofs.Common.{◌∙◌, ap, ap₂, subst, sym, arith}
use Rattle.std.proofs.lemmas.List.{length-append}
use Rattle.da_values.specs.declared.token.Mark.{Mark}
use Rattle.da_values.specs.declared.token.Mark.TheVariants as m
use Rattle.da_values.specs.Marks.{Tok}
use Rattle.da_lang.specs.declared.tree.ClassTree.{ClassTree}
use Rattle.da_lang.specs.declared.tree.MainLine.{MainLine}
use Rattle.da_lang.specs.declared.tree.MainLine.TheVariants as main_line
use Rattle.da_lang.specs.declared.tree.Member.{Member}
use Rattle.da_lang.specs.declared.tree.Member.TheVariants as member
use Rattle.da_lang.specs.declared.tree.MessageDecl.{MessageDecl}
use Rattle.da_lang.specs.declared.tree.Param.{Param}
use Rattle.da_lang.specs.declared.tree.PatternTree.{PatternTree}
use Rattle.da_lang.specs.declared.tree.Tree.{Tree}
use Rattle.da_lang.specs.declared.ty.ChannelKind.{ChannelKind}
use Rattle.da_lang.specs.Grammar as gr
use Rattle.da_lang.specs.Grammar.{IsFrom, IsParams, IsMline, IsMessage, IsClass, IsDecls, IsMain, IsProgram}
use Rattle.da_lang.specs.Spelling as g
use Rattle.da_lang.specs.Spelling.{Spelling, Room, IsSpelled, Separated, Closed, Ended}
use Rattle.da_lang.specs.TypeGrammar.{TypeIn}
use Rattle.da_lang.specs.ExprGrammar.{Deeper, IsPattern, deeper}
use Rattle.da_lang.specs.StmtGrammar.{IsBlock, BodyIn}
use Rattle.da_parse.specs.Loose.{given_member, given_class, given_tree}
use Rattle.da_parse.specs.Parameters as loose
use Rattle.added_names.specs.declared.added.AddedTag.{AddedTag}
use Rattle.added_names.specs.declared.added.AddedVariable.{AddedVariable}
use Rattle.added_names.specs.Changes.{Changes, stmt_changes, declares, member_changes, added_variables}
use Rattle.added_names.specs.Filled.{Left}
use Rattle.added_names.specs.Firsts.{firsts, knows, unless}
use Rattle.added_names.specs.StmtTags.{handler_tags, stmt_tags, member_tags, class_tags, main_tags, tree_tags, added_tags}
use Rattle.added_names.specs.Tags.{Tags, tags_in, pattern_tag, pattern_tags, sender_tags}
use Rattle.added_names.proofs.TagsAt as at
use Rattle.da_infer.proofs.AddedLines.{are_in, parts_in_lines}
use Rattle.da_infer.proofs.FilledLaws.{flat_same}
use Rattle.da_infer.proofs.FilledSpelled.{message_moves}
use Rattle.da_infer.proofs.Grown.{LooseOne, LooseMember, member_grows, members_grow}
use Rattle.da_infer.proofs.MovedLists.{Free}
use Rattle.da_infer.proofs.MovedExprs.{DeepMoves, type_moves, deep_moves, pattern_moves}
use Rattle.da_infer.proofs.MovedStmts.{body_moves, from_moves, at_moves}
use Rattle.da_infer.proofs.SpelledWords.{IsWord, AreWords}
use Rattle.da_infer.proofs.TagNames.{AreNames, firsts_all}
use Rattle.da_infer.proofs.TakenExprs.{none, three, each_of, lines_append, lines_total, total, at_one, opens_one, named_one, number_one, Takes, Keeps, whole, deep_takes, disj_after, pattern_takes, ended_takes}
use Rattle.da_infer.proofs.TakenStmts.{after_at, after_opens, after_named, Passes, passes, Held, Holds, HoldsBody, both_words, ended_holds, block_holds, bodies_hold}

-- ---- what takes some tokens or none

record Past (t r : List Tok) : Type 0 where
  pub rest : All IsSpelled t → All IsSpelled r
  pub shorter : length r ≤ length t

abbrev GoesPast : {A : Type 0} → Spelling A → Type 0
GoesPast {A} X = (x : A) (t r : List Tok) → X x t r → Past t r

type_past : (room : ℕ → Room) (f d : ℕ) → GoesPast (TypeIn room f d)
type_past room f d x t r h = let a = type_moves room f d f d (omega arith) x t r h [] in record { rest = λ all. a.along.rest all; shorter = a.along.shorter }

param_past : (room : ℕ → Room) (f : ℕ) → GoesPast (LooseOne room f)
param_past room f _ t r (loose.IsLooseParam.written {x} n c h) =
    let a = type_past room f 2 x _ _ h in
    record { rest = λ all. a.rest (after_at c (after_named n all)); shorter = omega (arith, named_one n, at_one c, a.shorter) }
param_past room f _ t r (loose.IsLooseParam.without n) = record { rest = λ all. after_named n all; shorter = omega (arith, named_one n) }

separated_past : {A : Type 0} (X : Spelling A) (k : Mark) → GoesPast X → GoesPast (Separated k X)
separated_past X k each _ t r (g.Separated.last {x} h) = each x _ _ h
separated_past X k each _ t r (g.Separated.more {x} {xs} h c l) =
    let a = each x _ _ h in
    let b = separated_past X k each xs _ _ l in
    record { rest = λ all. b.rest (after_at c (a.rest all)); shorter = omega (arith, a.shorter, at_one c, b.shorter) }

params_past : (room : ℕ → Room) (f : ℕ) → GoesPast (IsParams (LooseOne room f))
params_past room f _ t r (g.Closed.empty a) = record { rest = λ all. after_at a all; shorter = omega (arith, at_one a) }
params_past room f ps t r (g.Closed.full l a) =
    let p = separated_past (LooseOne room f) m.Comma (param_past room f) ps _ _ l in
    record { rest = λ all. after_at a (p.rest all); shorter = omega (arith, p.shorter, at_one a) }

-- ---- members

handler_size : (line : ℕ) (p : PatternTree) (o : Option PatternTree) → parts_in_lines (handler_tags line p o) ≡ parts_in_lines (pattern_tag line p) + parts_in_lines (pattern_tags line p) + parts_in_lines (sender_tags line o)
unfolding handler_tags
handler_size line p o = three (handler_tags line p o) (pattern_tag line p) (pattern_tags line p) (sender_tags line o) refl

from_takes : (line : ℕ) (X : Spelling PatternTree) → Takes (whole line) X → Keeps (λ o. parts_in_lines (sender_tags line o)) (IsFrom X)
from_takes line X each _ t r gr.IsFrom.no_from = omega (arith, none (at.sender-None line))
from_takes line X each _ t r (gr.IsFrom.from {p} a h) = omega (arith, at_one a, each p _ _ h, ap parts_in_lines (at.sender-Some line p))

module _ (room : ℕ → Room) (f : ℕ) where
  abbrev Patterns : Spelling PatternTree
  Patterns = IsPattern (room 1) (deeper room f 2)

  moves_here : DeepMoves (deeper room f 2) (deeper (λ d. Free) f 2)
  moves_here = deep_moves room f 2 f 2 (omega arith)

  patterns_take : (line : ℕ) → Takes (whole line) Patterns
  patterns_take line = pattern_takes line (room 1) (deeper room f 2) (deep_takes line room f 2)

  next_pattern : Passes Patterns
  next_pattern = passes (pattern_moves (room 1) (deeper room f 2) (deeper (λ d. Free) f 2) moves_here)

  next_from : Passes (IsFrom Patterns)
  next_from = passes (from_moves (pattern_moves (room 1) (deeper room f 2) (deeper (λ d. Free) f 2) moves_here))

  blocks_hold : HoldsBody (IsBlock (room 1) (deeper room f 2) (BodyIn room f 2))
  blocks_hold =
      block_holds (room 1) (deeper room f 2) (deeper (λ d. Free) f 2) moves_here (λ line. deep_takes line room f 2) (BodyIn room f 2) (BodyIn (λ d. Free) f 2) (body_moves room f 2 f 2 (omega arith)) (bodies_hold room f 2)

  member_holds : Holds 1 member_tags member_changes (LooseMember room f)
  unfolding member_tags member_changes
  member_holds _ t r (gr.IsMember.var {x} a n c h z) =
      let p = type_past room f 1 x _ _ h in
      record { few = omega (arith, at_one a, named_one n, at_one c, p.shorter, at_one z); words = λ all. tt }
  member_holds _ t r (gr.IsMember.setup {ps} {b} a i o l c q) =
      let d = params_past room f ps _ _ l in
      let p = blocks_hold b _ _ q in
      record { few = omega (arith, at_one a, at_one i, opens_one o, d.shorter, at_one c, p.few); words = λ all. p.words (after_at c (d.rest (after_opens o (after_at i (after_at a all))))) }
  member_holds _ t r (gr.IsMember.run {b} a i o z c q) =
      let p = blocks_hold b _ _ q in
      record { few = omega (arith, at_one a, at_one i, opens_one o, at_one z, at_one c, p.few); words = λ all. p.words (after_at c (after_at z (after_opens o (after_at i (after_at a all))))) }
  member_holds _ t r (gr.IsMember.method {ps} {b} a n o l c q) =
      let d = params_past room f ps _ _ l in
      let p = blocks_hold b _ _ q in
      record { few = omega (arith, at_one a, named_one n, opens_one o, d.shorter, at_one c, p.few); words = λ all. p.words (after_at c (d.rest (after_opens o (after_named n (after_at a all))))) }
  member_holds _ t r (gr.IsMember.receive {p = pattern} {o} {ns} {b} {t = u} a h i n c q) =
      let line = g.line u in
      let p = blocks_hold b _ _ q in
      record {
        few = omega (
          arith,
          at_one a,
          patterns_take line pattern _ _ h,
          from_takes line Patterns (patterns_take line) o _ _ i,
          (at_moves ns _ _ n []).along.shorter,
          at_one c,
          p.few,
          lines_append (handler_tags line pattern o) (flat_map stmt_tags b),
          handler_size line pattern o,
        );
        words = λ all. p.words (after_at c (passes at_moves ns _ _ n (next_from o _ _ i (next_pattern pattern _ _ h (after_at a all)))));
      }

  abbrev nothing : Left
  nothing = record { places = []; types = [] }

  next_member : Passes (LooseMember room f)
  next_member x t r h all = (member_grows room f (suc f) (omega arith) (omega arith) 0 0 x nothing t r h tt []).grows.rest all

  next_members : Passes (Ended (LooseMember room f))
  next_members xs t r l all = (members_grow room f (suc f) (omega arith) (omega arith) 0 0 xs nothing t r l tt []).grows.rest all

  -- ---- classes

  abbrev class_changes : ClassTree → Changes
  class_changes c = flat_map member_changes c.members

  class_holds : Holds 1 class_tags class_changes (IsClass room f (LooseOne room f))
  unfolding class_tags
  class_holds _ t r (gr.IsClass.class {ms} a n e p c z o l) =
      let q = ended_holds member_tags member_changes (LooseMember room f) next_member member_holds ms _ _ l in
      record {
        few = omega (arith, at_one a, named_one n, at_one e, at_one p, at_one c, at_one z, opens_one o, q.few);
        words = λ all. q.words (after_opens o (after_at z (after_at c (after_at p (after_at e (after_named n (after_at a all)))))));
      }

  next_class : Passes (IsClass room f (LooseOne room f))
  next_class _ t r (gr.IsClass.class {ms} a n e p c z o l) all = next_members ms _ _ l (after_opens o (after_at z (after_at c (after_at p (after_at e (after_named n (after_at a all)))))))

  decls_hold : (xs : List MessageDecl) (cs : List ClassTree) (t r : List Tok) → IsDecls room f (LooseOne room f) xs cs t r → Held 0 (parts_in_lines (flat_map class_tags cs)) (flat_map class_changes cs) t r
  decls_hold _ _ t r gr.IsDecls.no_decl = record { few = omega arith; words = λ all. tt }
  decls_hold _ cs t r (gr.IsDecls.message {x} {xs} h l) =
      let a = message_moves room f (suc f) (omega arith) (omega arith) x _ _ h [] in
      let q = decls_hold xs cs _ _ l in
      record { few = omega (arith, a.along.shorter, q.few); words = λ all. q.words (a.along.rest all) }
  decls_hold xs _ t r (gr.IsDecls.class {c} {cs} h l) =
      let p = class_holds c _ _ h in
      let q = decls_hold xs cs _ _ l in
      record {
        few = omega (arith, p.few, q.few, lines_append (class_tags c) (flat_map class_tags cs), length-append (class_changes c) (flat_map class_changes cs));
        words = λ all. both_words (class_changes c) (flat_map class_changes cs) (p.words all) (q.words (next_class c _ _ h all));
      }

  -- ---- main

  abbrev in_main : MainLine → ℕ
  in_main x = parts_in_lines (main_tags x)

  count_few : (o : Option ℕ) (t r : List Tok) → gr.IsCount o t r → length r ≤ length t
  count_few _ t r gr.IsCount.no_count = omega arith
  count_few _ t r (gr.IsCount.count a n) = omega (arith, at_one a, number_one n)

  mline_takes : Takes in_main (IsMline (room 1) (deeper room f 2))
  unfolding main_tags
  mline_takes _ t r (gr.IsMline.new {o} n a w p c k z y) = omega (arith, named_one n, at_one a, at_one w, opens_one p, named_one c, count_few o _ _ k, at_one z, at_one y)
  mline_takes _ t r (gr.IsMline.setup {xs} {t = u} a p n l z y) =
      omega (arith, at_one a, opens_one p, named_one n, disj_after (g.line u) (room 1) (deeper room f 2) (deep_takes (g.line u) room f 2) xs _ _ l, at_one z, at_one y, lines_total (tags_in (g.line u)) xs)

  main_takes : (ls : List MainLine) (t r : List Tok) → IsMain room f ls t r → 2 * parts_in_lines (flat_map main_tags ls) + length r ≤ length t
  main_takes _ t r (gr.IsMain.main {ls} a h o i j k p l) =
      omega (arith, at_one a, at_one h, opens_one o, at_one i, at_one j, at_one k, opens_one p, ended_takes in_main (IsMline (room 1) (deeper room f 2)) mline_takes ls _ _ l, lines_total main_tags ls)

  kind_few : (k : ChannelKind) (t r : List Tok) → gr.IsKind k t r → length r ≤ length t
  kind_few _ t r gr.IsKind.no_kind = omega arith
  kind_few _ t r (gr.IsKind.fifo_reliable a b c z) = omega (arith, at_one a, at_one b, at_one c, at_one z)
  kind_few _ t r (gr.IsKind.unordered_reliable a b c z) = omega (arith, at_one a, at_one b, at_one c, at_one z)
  kind_few _ t r (gr.IsKind.fifo_unreliable a b c z) = omega (arith, at_one a, at_one b, at_one c, at_one z)
  kind_few _ t r (gr.IsKind.unordered_unreliable a b c z) = omega (arith, at_one a, at_one b, at_one c, at_one z)

  kind_next : (k : ChannelKind) (t r : List Tok) → gr.IsKind k t r → All IsSpelled t → All IsSpelled r
  kind_next _ t r gr.IsKind.no_kind all = all
  kind_next _ t r (gr.IsKind.fifo_reliable a b c z) all = after_at z (after_at c (after_at b (after_at a all)))
  kind_next _ t r (gr.IsKind.unordered_reliable a b c z) all = after_at z (after_at c (after_at b (after_at a all)))
  kind_next _ t r (gr.IsKind.fifo_unreliable a b c z) all = after_at z (after_at c (after_at b (after_at a all)))
  kind_next _ t r (gr.IsKind.unordered_unreliable a b c z) all = after_at z (after_at c (after_at b (after_at a all)))

  -- ---- programs

  pub program_takes : (t : Tree) (i : List Tok) → IsProgram room f (LooseOne room f) t i → All IsSpelled i → (2 * (parts_in_lines (tree_tags t) + length (flat_map class_changes t.classes)) ≤ length i) × AreWords (flat_map class_changes t.classes)
  unfolding tree_tags
  program_takes _ i (gr.IsProgram.program {k} {xs} {cs} {ls} a b c) all =
      let p = decls_hold xs cs _ _ b in
      (omega (arith, kind_few k _ _ a, p.few, main_takes ls _ _ c, lines_append (flat_map class_tags cs) (flat_map main_tags ls)), p.words (kind_next k _ _ a all))

-- ---- with `int` in the places without types

given_tags : (x : Member) → member_tags (given_member x) ≡ member_tags x
unfolding member_tags
given_tags (member.Var name ty line) = refl
given_tags (member.Setup params body line) = refl
given_tags (member.Run body line) = refl
given_tags (member.Method name params body line) = refl
given_tags (member.Receive message from labels body line) = refl

given_changes : (x : Member) → member_changes (given_member x) ≡ member_changes x
unfolding member_changes
given_changes (member.Var name ty line) = refl
given_changes (member.Setup params body line) = refl
given_changes (member.Run body line) = refl
given_changes (member.Method name params body line) = refl
given_changes (member.Receive message from labels body line) = refl

given_class_tags : (c : ClassTree) → class_tags (given_class c) ≡ class_tags c
unfolding class_tags
given_class_tags c = flat_same given_member member_tags member_tags given_tags c.members

given_tree_tags : (t : Tree) → tree_tags (given_tree t) ≡ tree_tags t
unfolding tree_tags
given_tree_tags t = ap (λ tags. tags ++ flat_map main_tags t.main) (flat_same given_class class_tags class_tags given_class_tags t.classes)

-- ---- those that appear first

lines_unless : (known : Bool) (x : AddedTag) → parts_in_lines (unless known x) ≤ suc x.parts
lines_unless true x = omega arith
lines_unless false x = omega arith

lines_firsts : (known : List (List ℕ)) (xs : Tags) → parts_in_lines (firsts (λ (x : AddedTag). x.tag) known xs) ≤ parts_in_lines xs
unfolding firsts
lines_firsts known [] = omega arith
lines_firsts known (x ∷ xs) =
    omega (arith, lines_append (unless (knows known x.tag) x) (firsts (λ (y : AddedTag). y.tag) (x.tag ∷ known) xs), lines_unless (knows known x.tag) x, lines_firsts (x.tag ∷ known) xs)

length_unless : (known : Bool) (x : AddedVariable) → length (unless known x) ≤ 1
length_unless true x = omega arith
length_unless false x = omega arith

length_firsts : (known : List (List ℕ)) (xs : Changes) → length (firsts (λ (v : AddedVariable). v.name) known xs) ≤ length xs
unfolding firsts
length_firsts known [] = omega arith
length_firsts known (x ∷ xs) =
    omega (arith, length-append (unless (knows known x.name) x) (firsts (λ (v : AddedVariable). v.name) (x.name ∷ known) xs), length_unless (knows known x.name) x, length_firsts (x.name ∷ known) xs)

tags_few : (t : Tree) → parts_in_lines (added_tags (given_tree t)) ≤ parts_in_lines (tree_tags t)
unfolding added_tags
tags_few t = omega (arith, lines_firsts (map (λ m. m.tag) t.messages) (tree_tags (given_tree t)), ap parts_in_lines (given_tree_tags t))

same_changes : (c : ClassTree) → flat_map member_changes (given_class c).members ≡ flat_map member_changes c.members
same_changes c = flat_same given_member member_changes member_changes given_changes c.members

variables_few : (c : ClassTree) → length (added_variables (given_class c)) ≤ length (flat_map member_changes c.members)
unfolding added_variables
variables_few c = omega (arith, length_firsts (flat_map declares (given_class c).members) (flat_map member_changes (given_class c).members), ap length (same_changes c))

variables_words : (c : ClassTree) → AreWords (flat_map member_changes c.members) → AreWords (added_variables (given_class c))
unfolding added_variables
variables_words c all =
    firsts_all (λ (v : AddedVariable). IsWord v.name) (λ (v : AddedVariable). v.name) (flat_map declares (given_class c).members) (flat_map member_changes (given_class c).members) (subst AreWords (sym (same_changes c)) all)

abbrev changes_in : List ClassTree → Changes
changes_in cs = flat_map (λ (c : ClassTree). flat_map member_changes c.members) cs

all_few : (cs : List ClassTree) → are_in (map given_class cs) ≤ length (changes_in cs)
all_few [] = omega arith
all_few (c ∷ cs) = omega (arith, variables_few c, all_few cs, length-append (flat_map member_changes c.members) (changes_in cs))

front_words : (vs ws : Changes) → AreWords (vs ++ ws) → AreWords vs
front_words [] ws all = tt
front_words (v ∷ vs) ws all = (all.0, front_words vs ws all.1)

back_words : (vs ws : Changes) → AreWords (vs ++ ws) → AreWords ws
back_words [] ws all = all
back_words (v ∷ vs) ws all = back_words vs ws all.1

all_words : (cs : List ClassTree) → AreWords (changes_in cs) → AllByRecursion (λ (c : ClassTree). AreWords (added_variables c)) (map given_class cs)
all_words [] all = tt
all_words (c ∷ cs) all = (variables_words c (front_words (flat_map member_changes c.members) (changes_in cs) all), all_words cs (back_words (flat_map member_changes c.members) (changes_in cs) all))

-- what is added to a program that tokens spell: so much, with names that are tokens
pub record IsAdded (t : Tree) (i : List Tok) : Type 0 where
  pub few : 2 * (parts_in_lines (added_tags (given_tree t)) + are_in (map given_class t.classes)) ≤ length i
  pub words : AllByRecursion (λ (c : ClassTree). AreWords (added_variables c)) (map given_class t.classes)

pub is_added : (room : ℕ → Room) (f : ℕ) (t : Tree) (i : List Tok) → IsProgram room f (LooseOne room f) t i → All IsSpelled i → IsAdded t i
is_added room f t i h all =
    let p = program_takes room f t i h all in
    record { few = omega (arith, p.0, tags_few t, all_few t.classes); words = all_words t.classes p.1 }
