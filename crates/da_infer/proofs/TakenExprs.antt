-- Each tag in an expression or a pattern, and each part after it, takes two tokens of those that spell it.
use Rattle.std.specs.Prelude.{◌≡◌, refl, ℕ, zero, suc, ◌+◌, ◌*◌, ◌≤◌, Bool, true, false, if◌then◌else◌, List, [], ◌∷◌, ◌++◌, length, flat_map, Option, Some, None, option_map, option_to_list, pos, neg_ℤ}
use Rattle.std.proofs.Common.{◌∙◌, ap, arith}
use Rattle.std.proofs.lemmas.List.{append-nil}
use Rattle.da_values.specs.declared.token.Mark.{Mark}
use Rattle.da_values.specs.declared.token.Mark.TheVariants as m
use Rattle.da_values.specs.Marks.{Tok}
use Rattle.da_lang.specs.declared.tree.ArithOp.{ArithOp}
use Rattle.da_lang.specs.declared.tree.ArithOp.TheVariants as arith_op
use Rattle.da_lang.specs.declared.tree.ChainTree.{ChainTree, roll-ChainTree}
use Rattle.da_lang.specs.declared.tree.CmpOp.{CmpOp}
use Rattle.da_lang.specs.declared.tree.Expr.{Expr, out-Expr}
use Rattle.da_lang.specs.declared.tree.Expr.TheFolds.{fold-roll-ChainTree, fold-roll-GenTree}
use Rattle.da_lang.specs.declared.tree.Expr.TheOpen.{Expr-F}
use Rattle.da_lang.specs.declared.tree.Expr.TheVariants as ex
use Rattle.da_lang.specs.declared.tree.GenTree.{GenTree, roll-GenTree}
use Rattle.da_lang.specs.declared.tree.PatternTree.{PatternTree}
use Rattle.da_lang.specs.declared.tree.PatternTree.TheVariants as pat
use Rattle.da_lang.specs.declared.tree.PeerTree.{PeerTree}
use Rattle.da_lang.specs.declared.tree.SourceTree.{SourceTree}
use Rattle.da_lang.specs.declared.tree.SourceTree.TheVariants as source
use Rattle.da_lang.specs.Spelling as g
use Rattle.da_lang.specs.Spelling.{Spelling, Room, At, Opens, Named, Number, Quoted, Separated, Closed, EachAfter, Many, Ended}
use Rattle.da_lang.specs.ExprGrammar as eg
use Rattle.da_lang.specs.ExprGrammar.{Deeper, IsSource, IsPeer, IsGen, IsCond, IsAtom, IsUnary, IsTimes, IsPlus, IsOthers, IsChain, IsProd, IsSum, IsCmp, IsComp, IsNeg, IsJoined, IsConj, IsDisj, IsQuant, IsExpr, IsPattern, negated, deeper}
use Rattle.added_names.specs.declared.added.AddedTag.{AddedTag}
use Rattle.added_names.specs.Names.{is_name}
use Rattle.added_names.specs.Tags.{Tags, Pattern, tag_at, tag_if, in_history, tags_in, pattern_at, peer_tags, chain_tags, gen_tags, pattern_tag, pattern_tags, guard_tags, peer_if, lead, text_in, sent_lead, sent_in, sent_tag, expr_step, pattern_step, peer_step, chain_step, gen_step}
use Rattle.added_names.proofs.TagsAt as at
use Rattle.da_infer.proofs.AddedLines.{parts_in_lines}

-- ---- sums of lines

pub lines_append : (xs ys : Tags) → parts_in_lines (xs ++ ys) ≡ parts_in_lines xs + parts_in_lines ys
lines_append [] ys = omega arith
lines_append (x ∷ xs) ys = omega (arith, lines_append xs ys)

pub none : {ts : Tags} → ts ≡ [] → parts_in_lines ts ≡ 0
none e = ap parts_in_lines e

pub both : (ts xs ys : Tags) → ts ≡ xs ++ ys → parts_in_lines ts ≡ parts_in_lines xs + parts_in_lines ys
both ts xs ys e = ap parts_in_lines e ∙ lines_append xs ys

pub three : (ts xs ys zs : Tags) → ts ≡ xs ++ ys ++ zs → parts_in_lines ts ≡ parts_in_lines xs + parts_in_lines ys + parts_in_lines zs
three ts xs ys zs e = omega (arith, both ts (xs ++ ys) zs e, lines_append xs ys)

abbrev pub total : {A : Type 0} → (A → ℕ) → List A → ℕ
total n [] = 0
total n (x ∷ xs) = n x + total n xs

pub lines_total : {A : Type 0} (f : A → Tags) (xs : List A) → parts_in_lines (flat_map f xs) ≡ total (λ x. parts_in_lines (f x)) xs
lines_total f [] = refl
lines_total f (x ∷ xs) = omega (arith, lines_append (f x) (flat_map f xs), lines_total f xs)

pub each_of : {A : Type 0} (f : A → Tags) (xs : List A) (ts : Tags) → ts ≡ flat_map f xs → parts_in_lines ts ≡ total (λ x. parts_in_lines (f x)) xs
each_of f xs ts e = ap parts_in_lines e ∙ lines_total f xs

-- ---- single tokens

pub at_one : {k : Mark} {t r : List Tok} → At k t r → length t ≡ suc (length r)
at_one (g.At.at e) = refl

pub opens_one : {k : Mark} {room : Room} {t r : List Tok} → Opens k room t r → length t ≡ suc (length r)
opens_one (g.Opens.opens o h) = at_one h

pub named_one : {b : List ℕ} {t r : List Tok} → Named b t r → length t ≡ suc (length r)
named_one (g.Named.named e) = refl

pub number_one : {n : ℕ} {t r : List Tok} → Number n t r → length t ≡ suc (length r)
number_one (g.Number.number e is) = refl

quoted_one : {b : List ℕ} {t r : List Tok} → Quoted b t r → length t ≡ suc (length r)
quoted_one (g.Quoted.quoted e is) = refl

source_one : {x : SourceTree} {t r : List Tok} → IsSource x t r → length t ≡ suc (length r)
source_one (eg.IsSource.received h) = at_one h
source_one (eg.IsSource.sent h) = at_one h
source_one (eg.IsSource.name h) = named_one h

abbrev pub One : {A : Type 0} → Spelling A → Type 0
One {A} S = (o : A) (t r : List Tok) → S o t r → length t ≡ suc (length r)

times_one : One IsTimes
times_one _ t r (eg.IsTimes.times h) = at_one h
times_one _ t r (eg.IsTimes.div h) = at_one h
times_one _ t r (eg.IsTimes.rem h) = at_one h

plus_one : One IsPlus
plus_one _ t r (eg.IsPlus.plus h) = at_one h
plus_one _ t r (eg.IsPlus.minus h) = at_one h

cmp_one : One IsCmp
cmp_one _ t r (eg.IsCmp.eq h) = at_one h
cmp_one _ t r (eg.IsCmp.ne h) = at_one h
cmp_one _ t r (eg.IsCmp.lt h) = at_one h
cmp_one _ t r (eg.IsCmp.le h) = at_one h
cmp_one _ t r (eg.IsCmp.gt h) = at_one h
cmp_one _ t r (eg.IsCmp.ge h) = at_one h

-- ---- what takes two tokens for each of so many things, and one besides; or none besides

abbrev pub Takes : {A : Type 0} → (A → ℕ) → Spelling A → Type 0
Takes {A} n X = (x : A) (t r : List Tok) → X x t r → 2 * n x + 1 + length r ≤ length t

abbrev pub Keeps : {A : Type 0} → (A → ℕ) → Spelling A → Type 0
Keeps {A} n X = (x : A) (t r : List Tok) → X x t r → 2 * n x + length r ≤ length t

pub weaker : {A : Type 0} (few many : A → ℕ) (X : Spelling A) → ((x : A) → few x ≤ many x) → Takes many X → Takes few X
weaker few many X le each x t r h = omega (arith, le x, each x t r h)

module _ {A : Type 0} (n : A → ℕ) (X : Spelling A) (each : Takes n X) where
  -- one thing and one token less between
  separated_takes : (k : Mark) (xs : List A) (t r : List Tok) → Separated k X xs t r → 2 * total n xs + 2 * length xs + length r ≤ length t + 1
  separated_takes k _ t r (g.Separated.last {x} h) = omega (arith, each x _ _ h)
  separated_takes k _ t r (g.Separated.more {x} {xs} h c l) = omega (arith, each x _ _ h, at_one c, separated_takes k xs _ _ l)

  pub some_takes : (k : Mark) (xs : List A) (t r : List Tok) → Separated k X xs t r → 2 * total n xs + 1 + length r ≤ length t
  some_takes k _ t r (g.Separated.last {x} h) = omega (arith, each x _ _ h)
  some_takes k _ t r (g.Separated.more {x} {xs} h c l) = omega (arith, each x _ _ h, at_one c, some_takes k xs _ _ l)

  pub closed_takes : (close : Mark) (xs : List A) (t r : List Tok) → Closed close X xs t r → 2 * total n xs + 2 * length xs + length r ≤ length t
  closed_takes close _ t r (g.Closed.empty h) = omega (arith, at_one h)
  closed_takes close xs t r (g.Closed.full l h) = omega (arith, separated_takes m.Comma xs _ _ l, at_one h)

  pub after_takes : (k : Mark) → Keeps (total n) (EachAfter k X)
  after_takes k _ t r g.EachAfter.none = omega arith
  after_takes k _ t r (g.EachAfter.one {x} {xs} a h l) = omega (arith, at_one a, each x _ _ h, after_takes k xs _ _ l)

  pub many_takes : Keeps (total n) (Many X)
  many_takes _ t r g.Many.none = omega arith
  many_takes _ t r (g.Many.one {x} {xs} h l) = omega (arith, each x _ _ h, many_takes xs _ _ l)

  pub ended_takes : Takes (total n) (Ended X)
  ended_takes _ t r (g.Ended.ends {x} h a) = omega (arith, each x _ _ h, at_one a)
  ended_takes _ t r (g.Ended.goes_on {x} {xs} h l) = omega (arith, each x _ _ h, ended_takes xs _ _ l)

-- ---- tags

one_few : (b : Bool) (x : AddedTag) → parts_in_lines (if b then x ∷ [] else []) ≤ suc x.parts
one_few true x = omega arith
one_few false x = omega arith

tag_few : (line : ℕ) (o : Option (List ℕ)) (parts : ℕ) → parts_in_lines (tag_if line o parts) ≤ suc parts
unfolding tag_if tag_at
tag_few line None parts = omega arith
tag_few line (Some text) parts = one_few (is_name text) (record { tag = text; parts = parts; line = line })

history_few : (x : SourceTree) (ts : Tags) → parts_in_lines (in_history x ts) ≤ parts_in_lines ts
unfolding in_history
history_few source.Received ts = omega arith
history_few source.Sent ts = omega arith
history_few (source.Name name) ts = omega arith

module _ (line : ℕ) where
  -- in an expression, and with the tag that it has as a message
  abbrev pub inner : Expr → ℕ
  inner x = parts_in_lines (tags_in line x)

  abbrev pub sent : Expr → ℕ
  sent x = parts_in_lines (sent_tag line x)

  abbrev pub full : Expr → ℕ
  full x = inner x + sent x

  -- in a pattern, and with the tag that it has as a message
  abbrev pub within : PatternTree → ℕ
  within p = parts_in_lines (pattern_tags line p)

  abbrev pub whole : PatternTree → ℕ
  whole p = within p + parts_in_lines (pattern_tag line p)

  unsent : (x : Expr) (y : Expr-F Expr PatternTree PeerTree ChainTree GenTree) → out-Expr x ≡ y → sent_in line y ≡ [] → sent x ≡ 0
  unfolding sent_tag
  unsent x y e nothing = none (ap (sent_in line) e ∙ nothing)

  lead_few : (p : PatternTree) (parts : ℕ) → parts_in_lines (lead line p parts) ≤ suc parts
  unfolding lead
  lead_few p parts = tag_few line (pattern_at line p).text parts

  sent_few : (x : Expr) (parts : ℕ) → parts_in_lines (sent_lead line x parts) ≤ suc parts
  unfolding sent_lead
  sent_few x parts = tag_few line (text_in (out-Expr x)) parts

  pub chain_of : (o : ArithOp) (x : Expr) → chain_tags line (roll-ChainTree (record { op = o; operand = x })) ≡ tags_in line x
  unfolding tags_in pattern_at peer_tags chain_tags gen_tags
  chain_of o x = fold-roll-ChainTree Tags Pattern Tags Tags Tags expr_step (pattern_step line) peer_step chain_step gen_step (record { op = o; operand = x })

  peer_all : (o : Option PeerTree) → flat_map (λ tags. tags) (option_to_list (option_map (peer_tags line) o)) ≡ peer_if line o
  unfolding peer_if
  peer_all None = refl
  peer_all (Some p) = append-nil (peer_tags line p)

  gen_by : (p : PatternTree) (o : Option PeerTree) (x : SourceTree) → gen_tags line (roll-GenTree (record { message = p; peer = o; source = x })) ≡ gen_step (record { message = pattern_at line p; peer = option_map (peer_tags line) o; source = x })
  unfolding tags_in pattern_at peer_tags chain_tags gen_tags
  gen_by p None x = fold-roll-GenTree Tags Pattern Tags Tags Tags expr_step (pattern_step line) peer_step chain_step gen_step (record { message = p; peer = None; source = x })
  gen_by p (Some o) x = fold-roll-GenTree Tags Pattern Tags Tags Tags expr_step (pattern_step line) peer_step chain_step gen_step (record { message = p; peer = Some o; source = x })

  pub gen_of : (p : PatternTree) (o : Option PeerTree) (x : SourceTree) → gen_tags line (roll-GenTree (record { message = p; peer = o; source = x })) ≡ in_history x (pattern_tag line p) ++ pattern_tags line p ++ peer_if line o
  unfolding pattern_tag pattern_tags
  gen_of p o x = gen_by p o x ∙ ap (λ tags. in_history x (pattern_at line p).tag ++ (pattern_at line p).within ++ tags) (peer_all o)

  abbrev in_chain : List ChainTree → ℕ
  in_chain = total (λ p. parts_in_lines (chain_tags line p))

  abbrev in_gen : GenTree → ℕ
  in_gen x = parts_in_lines (gen_tags line x)

  abbrev in_peer : Option PeerTree → ℕ
  in_peer o = parts_in_lines (peer_if line o)

  abbrev in_guard : Option Expr → ℕ
  in_guard o = parts_in_lines (guard_tags line o)

  -- ---- parts of queries

  module _ (X : Spelling PatternTree) (each : Takes whole X) where
    peer_takes : Keeps in_peer (IsPeer X)
    peer_takes _ t r eg.IsPeer.no_peer = omega (arith, none (at.peer-None line))
    peer_takes _ t r (eg.IsPeer.from {p} a h) = omega (arith, at_one a, each p _ _ h, ap parts_in_lines (at.peer-From line p))
    peer_takes _ t r (eg.IsPeer.to {p} a h) = omega (arith, at_one a, each p _ _ h, ap parts_in_lines (at.peer-To line p))

    gen_takes : Takes in_gen (IsGen X)
    gen_takes _ t r (eg.IsGen.gen {p} {o} {x} h i a j) =
        omega (
          arith,
          each p _ _ h,
          peer_takes o _ _ i,
          at_one a,
          source_one j,
          history_few x (pattern_tag line p),
          three (gen_tags line (roll-GenTree (record { message = p; peer = o; source = x }))) (in_history x (pattern_tag line p)) (pattern_tags line p) (peer_if line o) (gen_of p o x),
        )

  cond_takes : (X : Spelling Expr) → Takes full X → Keeps in_guard (IsCond X)
  cond_takes X each _ t r eg.IsCond.no_cond = omega (arith, none (at.guard-None line))
  cond_takes X each _ t r (eg.IsCond.bar {x} a h) = omega (arith, at_one a, each x _ _ h, ap parts_in_lines (at.guard-Some line x))
  cond_takes X each _ t r (eg.IsCond.has {x} a h) = omega (arith, at_one a, each x _ _ h, ap parts_in_lines (at.guard-Some line x))

  -- ---- chains and joined operands

  module _ (S : Spelling ArithOp) (X : Spelling Expr) (sign : One S) (each : Takes full X) where
    others_takes : Keeps in_chain (IsOthers S X)
    others_takes _ t r eg.IsOthers.no_other = omega arith
    others_takes _ t r (eg.IsOthers.other {o} {x} {ps} h i l) = omega (arith, sign o _ _ h, each x _ _ i, others_takes ps _ _ l, ap parts_in_lines (chain_of o x))

    chain_takes : Takes full (IsChain S X)
    chain_takes _ t r (eg.IsChain.lone {x} h) = each x _ _ h
    chain_takes _ t r (eg.IsChain.chain {x} {p} {ps} h l) =
        omega (
          arith,
          each x _ _ h,
          others_takes (p ∷ ps) _ _ l,
          both (tags_in line (ex.Chain x (p ∷ ps))) (tags_in line x) (flat_map (chain_tags line) (p ∷ ps)) (at.tags-Chain line x (p ∷ ps)),
          lines_total (chain_tags line) (p ∷ ps),
          unsent (ex.Chain x (p ∷ ps)) _ (ex.outs-Chain x (p ∷ ps)) refl,
        )

  joined_takes : (k : Mark) (made : List Expr → Expr) (X : Spelling Expr) → ((xs : List Expr) → tags_in line (made xs) ≡ flat_map (tags_in line) xs) → ((xs : List Expr) → sent (made xs) ≡ 0) → Takes full X → Takes full (IsJoined k made X)
  joined_takes k made X is nothing each _ t r (eg.IsJoined.lone {x} h) = each x _ _ h
  joined_takes k made X is nothing each _ t r (eg.IsJoined.joined {x} {y} {ys} l) =
      omega (arith, some_takes inner X (weaker inner full X (λ z. omega arith) each) k (x ∷ y ∷ ys) _ _ l, each_of (tags_in line) (x ∷ y ∷ ys) (tags_in line (made (x ∷ y ∷ ys))) (is (x ∷ y ∷ ys)), nothing (x ∷ y ∷ ys))

-- ---- what stands one deeper

pub record DeepTakes (line : ℕ) (deep : Deeper) : Type 0 where
  pub expr : Takes (full line) deep.expr
  pub disj : Takes (full line) deep.disj
  pub neg : Takes (full line) deep.neg
  pub unary : Takes (full line) deep.unary
  pub pattern : Takes (whole line) deep.pattern

module _ (line : ℕ) (room : Room) (deep : Deeper) (below : DeepTakes line deep) where
  disjs : Takes (inner line) deep.disj
  disjs = weaker (inner line) (full line) deep.disj (λ z. omega arith) below.disj

  pub disj_list : (close : Mark) (xs : List Expr) (t r : List Tok) → Closed close deep.disj xs t r → 2 * total (inner line) xs + 2 * length xs + length r ≤ length t
  disj_list = closed_takes (inner line) deep.disj disjs

  pub disj_after : Keeps (total (inner line)) (EachAfter m.Comma deep.disj)
  disj_after = after_takes (inner line) deep.disj disjs m.Comma

  patterns : Takes (within line) deep.pattern
  patterns = weaker (within line) (whole line) deep.pattern (λ p. omega arith) below.pattern

  gens_takes : (gs : List GenTree) (t r : List Tok) → Separated m.Comma (IsGen deep.pattern) gs t r → 2 * total (in_gen line) gs + 1 + length r ≤ length t
  gens_takes = some_takes (in_gen line) (IsGen deep.pattern) (gen_takes line deep.pattern below.pattern) m.Comma

  guards : Keeps (in_guard line) (IsCond deep.expr)
  guards = cond_takes line deep.expr below.expr

  two : (f : Expr → Expr → Expr) (x y : Expr) → tags_in line (f x y) ≡ tags_in line x ++ tags_in line y → inner line (f x y) ≡ inner line x + inner line y
  two f x y e = both (tags_in line (f x y)) (tags_in line x) (tags_in line y) e

  atom_takes : Takes (full line) (IsAtom room deep)
  atom_takes _ t r (eg.IsAtom.int {n} h) = omega (arith, number_one h, none (at.tags-Int line (pos n)), unsent line (ex.Int (pos n)) _ (ex.outs-Int (pos n)) refl)
  atom_takes _ t r (eg.IsAtom.text {b} h) = omega (arith, quoted_one h, none (at.tags-Text line b), unsent line (ex.Text b) _ (ex.outs-Text b) refl)
  atom_takes _ t r (eg.IsAtom.yes h) = omega (arith, at_one h, none (at.tags-Truth line true), unsent line (ex.Truth true) _ (ex.outs-Truth true) refl)
  atom_takes _ t r (eg.IsAtom.no h) = omega (arith, at_one h, none (at.tags-Truth line false), unsent line (ex.Truth false) _ (ex.outs-Truth false) refl)
  atom_takes _ t r (eg.IsAtom.me h) = omega (arith, at_one h, none (at.tags-Me line), unsent line ex.Me _ ex.outs-Me refl)
  atom_takes _ t r (eg.IsAtom.name {b} h) = omega (arith, named_one h, none (at.tags-Name line b), unsent line (ex.Name b) _ (ex.outs-Name b) refl)
  atom_takes _ t r (eg.IsAtom.clock a o z) = omega (arith, at_one a, opens_one o, at_one z, none (at.tags-Clock line), unsent line ex.Clock _ ex.outs-Clock refl)
  atom_takes _ t r (eg.IsAtom.range {x} {y} a o h c k z) =
      omega (arith, at_one a, opens_one o, below.disj x _ _ h, at_one c, below.disj y _ _ k, at_one z, two ex.Range x y (at.tags-Range line x y), unsent line (ex.Range x y) _ (ex.outs-Range x y) refl)
  atom_takes _ t r (eg.IsAtom.group {x} o h z) = omega (arith, opens_one o, below.expr x _ _ h, at_one z)
  atom_takes _ t r (eg.IsAtom.tuple {x} {xs} o h c l) =
      omega (
        arith,
        opens_one o,
        below.disj x _ _ h,
        at_one c,
        disj_list m.CloseParen xs _ _ l,
        each_of (tags_in line) (x ∷ xs) (tags_in line (ex.Tuple (x ∷ xs))) (at.tags-Tuple line (x ∷ xs)),
        ap parts_in_lines (at.sent-Tuple line (x ∷ xs) ∙ at.sent_leads-cons line x xs),
        sent_few line x (length xs),
      )
  atom_takes _ t r (eg.IsAtom.set_of {xs} o l) =
      omega (arith, opens_one o, disj_list m.CloseBrace xs _ _ l, each_of (tags_in line) xs (tags_in line (ex.SetOf xs)) (at.tags-SetOf line xs), unsent line (ex.SetOf xs) _ (ex.outs-SetOf xs) refl)
  atom_takes _ t r (eg.IsAtom.comprehension {x} {gs} {o = cond} b h c l k z) =
      omega (
        arith,
        opens_one b,
        below.disj x _ _ h,
        at_one c,
        gens_takes gs _ _ l,
        guards cond _ _ k,
        at_one z,
        three (tags_in line (ex.Comp x gs cond)) (tags_in line x) (flat_map (gen_tags line) gs) (guard_tags line cond) (at.tags-Comp line x gs cond),
        lines_total (gen_tags line) gs,
        unsent line (ex.Comp x gs cond) _ (ex.outs-Comp x gs cond) refl,
      )
  atom_takes _ t r (eg.IsAtom.count {x} a o h z) = omega (arith, at_one a, opens_one o, below.disj x _ _ h, at_one z, ap parts_in_lines (at.tags-Count line x), unsent line (ex.Count x) _ (ex.outs-Count x) refl)
  atom_takes _ t r (eg.IsAtom.sum {x} a o h z) = omega (arith, at_one a, opens_one o, below.disj x _ _ h, at_one z, ap parts_in_lines (at.tags-Sum line x), unsent line (ex.Sum x) _ (ex.outs-Sum x) refl)
  atom_takes _ t r (eg.IsAtom.min {x} {y} a o h c k z) =
      omega (arith, at_one a, opens_one o, below.disj x _ _ h, at_one c, below.disj y _ _ k, at_one z, two ex.Min x y (at.tags-Min line x y), unsent line (ex.Min x y) _ (ex.outs-Min x y) refl)
  atom_takes _ t r (eg.IsAtom.max {x} {y} a o h c k z) =
      omega (arith, at_one a, opens_one o, below.disj x _ _ h, at_one c, below.disj y _ _ k, at_one z, two ex.Max x y (at.tags-Max line x y), unsent line (ex.Max x y) _ (ex.outs-Max x y) refl)

  negated_size : (x : Expr) → full line (negated x) ≡ inner line x
  negated_size x =
      let p = roll-ChainTree (record { op = arith_op.Minus; operand = x }) in
      omega (
        arith,
        both (tags_in line (negated x)) (tags_in line (ex.Int (pos 0))) (flat_map (chain_tags line) (p ∷ [])) (at.tags-Chain line (ex.Int (pos 0)) (p ∷ [])),
        none (at.tags-Int line (pos 0)),
        lines_total (chain_tags line) (p ∷ []),
        ap parts_in_lines (chain_of line arith_op.Minus x),
        unsent line (negated x) _ (ex.outs-Chain (ex.Int (pos 0)) (p ∷ [])) refl,
      )

  unary_takes : Takes (full line) (IsUnary room deep)
  unary_takes x t r (eg.IsUnary.atom h) = atom_takes x t r h
  unary_takes _ t r (eg.IsUnary.negative {n} o h) =
      omega (arith, opens_one o, number_one h, none (at.tags-Int line (neg_ℤ (pos n))), unsent line (ex.Int (neg_ℤ (pos n))) _ (ex.outs-Int (neg_ℤ (pos n))) refl)
  unary_takes _ t r (eg.IsUnary.minus {x} o n h) = omega (arith, opens_one o, below.unary x _ _ h, negated_size x)

  sum_takes : Takes (full line) (IsSum room deep)
  sum_takes = chain_takes line IsPlus (IsProd room deep) plus_one (chain_takes line IsTimes (IsUnary room deep) times_one unary_takes)

  comp_takes : Takes (full line) (IsComp room deep)
  comp_takes x t r (eg.IsComp.lone h) = sum_takes x t r h
  comp_takes _ t r (eg.IsComp.compared {o} {x} {y} h i j) =
      omega (arith, sum_takes x _ _ h, cmp_one o _ _ i, sum_takes y _ _ j, two (ex.Cmp o) x y (at.tags-Cmp line o x y), unsent line (ex.Cmp o x y) _ (ex.outs-Cmp o x y) refl)
  comp_takes _ t r (eg.IsComp.member {x} {y} h a j) =
      omega (arith, sum_takes x _ _ h, at_one a, sum_takes y _ _ j, two ex.Member x y (at.tags-Member line x y), unsent line (ex.Member x y) _ (ex.outs-Member x y) refl)

  neg_takes : Takes (full line) (IsNeg room deep)
  neg_takes _ t r (eg.IsNeg.negation {x} o h) = omega (arith, opens_one o, below.neg x _ _ h, ap parts_in_lines (at.tags-Not line x), unsent line (ex.Not x) _ (ex.outs-Not x) refl)
  neg_takes x t r (eg.IsNeg.comp h) = comp_takes x t r h

  disj_takes : Takes (full line) (IsDisj room deep)
  disj_takes =
      joined_takes line m.Or ex.Or (IsConj room deep) (at.tags-Or line) (λ xs. unsent line (ex.Or xs) _ (ex.outs-Or xs) refl)
      (joined_takes line m.And ex.And (IsNeg room deep) (at.tags-And line) (λ xs. unsent line (ex.And xs) _ (ex.outs-And xs) refl) neg_takes)

  quant_size : (each : Bool) (gs : List GenTree) (cond : Option Expr) → full line (ex.Quant each gs cond) ≡ total (in_gen line) gs + in_guard line cond
  quant_size each gs cond =
      omega (
        arith,
        both (tags_in line (ex.Quant each gs cond)) (flat_map (gen_tags line) gs) (guard_tags line cond) (at.tags-Quant line each gs cond),
        lines_total (gen_tags line) gs,
        unsent line (ex.Quant each gs cond) _ (ex.outs-Quant each gs cond) refl,
      )

  quant_takes : Takes (full line) (IsQuant room deep)
  quant_takes _ t r (eg.IsQuant.«some» {gs} {o = cond} a l k) = omega (arith, opens_one a, gens_takes gs _ _ l, guards cond _ _ k, quant_size false gs cond)
  quant_takes _ t r (eg.IsQuant.each {gs} {o = cond} a l k) = omega (arith, opens_one a, gens_takes gs _ _ l, guards cond _ _ k, quant_size true gs cond)

  pub expr_takes : Takes (full line) (IsExpr room deep)
  expr_takes x t r (eg.IsExpr.quant h) = quant_takes x t r h
  expr_takes x t r (eg.IsExpr.disj h) = disj_takes x t r h

  pub pattern_takes : Takes (whole line) (IsPattern room deep)
  pattern_takes _ t r (eg.IsPattern.wild h) = omega (arith, at_one h, none (at.within-Wild line), none (at.tag-Wild line))
  pattern_takes _ t r (eg.IsPattern.name {b} h) = omega (arith, named_one h, none (at.within-Name line b), none (at.tag-Name line b))
  pattern_takes _ t r (eg.IsPattern.int {n} h) = omega (arith, number_one h, none (at.within-Int line (pos n)), none (at.tag-Int line (pos n)))
  pattern_takes _ t r (eg.IsPattern.negative {n} a h) = omega (arith, at_one a, number_one h, none (at.within-Int line (neg_ℤ (pos n))), none (at.tag-Int line (neg_ℤ (pos n))))
  pattern_takes _ t r (eg.IsPattern.text {b} h) = omega (arith, quoted_one h, none (at.within-Text line b), none (at.tag-Text line b))
  pattern_takes _ t r (eg.IsPattern.yes h) = omega (arith, at_one h, none (at.within-Truth line true), none (at.tag-Truth line true))
  pattern_takes _ t r (eg.IsPattern.no h) = omega (arith, at_one h, none (at.within-Truth line false), none (at.tag-Truth line false))
  pattern_takes _ t r (eg.IsPattern.me h) = omega (arith, at_one h, none (at.within-Me line), none (at.tag-Me line))
  pattern_takes _ t r (eg.IsPattern.equal {x} a h) = omega (arith, at_one a, unary_takes x _ _ h, ap parts_in_lines (at.within-Equal line x), none (at.tag-Equal line x))
  pattern_takes _ t r (eg.IsPattern.tuple {p} {ps} o h c l) =
      omega (
        arith,
        opens_one o,
        below.pattern p _ _ h,
        at_one c,
        closed_takes (within line) deep.pattern patterns m.CloseParen ps _ _ l,
        each_of (pattern_tags line) (p ∷ ps) (pattern_tags line (pat.Tuple (p ∷ ps))) (at.within-Tuple line (p ∷ ps)),
        ap parts_in_lines (at.tag-Tuple line (p ∷ ps) ∙ at.leads-cons line p ps),
        lead_few line p (length ps),
      )

pub deep_takes : (line : ℕ) (room : ℕ → Room) (f d : ℕ) → DeepTakes line (deeper room f d)
unfolding deeper
deep_takes line room zero d = record { expr = λ x t r h. absurd h; disj = λ x t r h. absurd h; neg = λ x t r h. absurd h; unary = λ x t r h. absurd h; pattern = λ x t r h. absurd h }
deep_takes line room (suc f) d =
    let below : DeepTakes line (deeper room f (suc d)) = deep_takes line room f (suc d) in
    record {
      expr = expr_takes line (room d) (deeper room f (suc d)) below;
      disj = disj_takes line (room d) (deeper room f (suc d)) below;
      neg = neg_takes line (room d) (deeper room f (suc d)) below;
      unary = unary_takes line (room d) (deeper room f (suc d)) below;
      pattern = pattern_takes line (room d) (deeper room f (suc d)) below;
    }
