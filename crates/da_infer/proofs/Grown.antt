-- What some tokens spell before others, some more tokens spell before any others: parameters and members with types.
use Rattle.std.specs.Prelude.{◌≡◌, refl, ℕ, zero, suc, ◌+◌, ◌*◌, ◌≤◌, ◌==◌, Bool, true, false, if◌then◌else◌, List, [], ◌∷◌, ◌++◌, length, map, drop, codes}
use Rattle.std.specs.List.{All, AllByRecursion}
use Rattle.std.proofs.Common.{◌∙◌, ap, sym, subst, arith}
use Rattle.std.proofs.lemmas.List.Elements.{All-cons, All-head, All-tail}
use Rattle.da_values.specs.declared.token.Mark.TheVariants as m
use Rattle.da_values.specs.Marks.{Tok}
use Rattle.da_lang.specs.declared.tree.Member.{Member}
use Rattle.da_lang.specs.declared.tree.Member.TheVariants as member
use Rattle.da_lang.specs.declared.tree.Param.{Param}
use Rattle.da_lang.specs.declared.tree.PatternTree.{PatternTree}
use Rattle.da_lang.specs.declared.tree.Stmt.{Stmt}
use Rattle.da_lang.specs.declared.ty.Ty.{Ty}
use Rattle.da_lang.specs.declared.ty.Ty.TheOpen.{Ty-F}
use Rattle.da_lang.specs.declared.ty.Ty.TheVariants as ty
use Rattle.da_lang.specs.Grammar as gr
use Rattle.da_lang.specs.Grammar.{IsParam, IsParams, IsMember}
use Rattle.da_lang.specs.Spelling as g
use Rattle.da_lang.specs.Spelling.{Spelling, Room, IsSpelled, Separated, Closed, Ended}
use Rattle.da_lang.specs.TypeGrammar.{TypeIn}
use Rattle.da_lang.specs.ExprGrammar.{IsPattern, deeper}
use Rattle.da_lang.specs.StmtGrammar.{IsBlock, BodyIn}
use Rattle.da_lang.specs.Types.{parts_in}
use Rattle.da_parse.specs.Loose.{has_none, is_open, given_type, given_param, given_member}
use Rattle.da_parse.specs.Members.{no_type}
use Rattle.da_parse.specs.Parameters as loose
use Rattle.da_parse.specs.Parameters.{IsLooseParam}
use Rattle.da_parse.proofs.WrittenTypes.{type_written}
use Rattle.added_names.specs.Filled.{Left, next_type, filled_from, left_from, is_next, type_filled, after_param, param_filled, param_left, params_filled, params_left, member_filled, member_left}
use Rattle.da_infer.proofs.MovedLists.{Free, Along, here, more, join, Moved, moved, Moves}
use Rattle.da_infer.proofs.MovedExprs.{type_moves, deep_moves, pattern_moves}
use Rattle.da_infer.proofs.MovedStmts.{block_moves, body_moves, from_moves, at_moves}
use Rattle.da_infer.proofs.Placed.{HasTokens, int_placed, Have, have_drop, have_next}
use Rattle.da_infer.proofs.SpelledWords.{tok_of, colon_spelled}

-- The tokens from t up to r stand before s now, from u on, and more of them: for each one 513 besides, and so many more.
pub record Grows (t r u s : List Tok) (most : ℕ) : Type 0 where
  pub all : All IsSpelled t → All IsSpelled s → All IsSpelled u
  pub rest : All IsSpelled t → All IsSpelled r
  pub size : length u + 514 * length r ≤ 514 * length t + length s + most

pub grows : {t r u s : List Tok} → Along t r u s → Grows t r u s 0
grows p = record { all = p.all; rest = p.rest; size = omega (arith, p.size, p.shorter) }

pub grow_more : {a : Tok} {t r u s : List Tok} {most : ℕ} → Grows t r u s most → Grows (a ∷ t) r (a ∷ u) s most
grow_more {a} {t} {u = u} p = record {
  all = λ b c. All-cons IsSpelled a u (All-head IsSpelled a t b) (p.all (All-tail IsSpelled a t b) c);
  rest = λ b. p.rest (All-tail IsSpelled a t b);
  size = omega (arith, p.size);
}

pub grow_join : {t r q u s z : List Tok} → Grows t r u s 0 → Grows r q s z 0 → Grows t q u z 0
grow_join p n = record { all = λ a c. p.all a (n.all (p.rest a) c); rest = λ a. n.rest (p.rest a); size = omega (arith, p.size, n.size) }

grow_loose : {t r u s : List Tok} → Grows t r u s 0 → Grows t r u s 512
grow_loose p = record { all = p.all; rest = p.rest; size = omega (arith, p.size) }

-- a comma after what has grown, or the closing token
grow_comma : {c : Tok} {t r q u s v : List Tok} → Grows t (c ∷ q) u (c ∷ v) 512 → Grows q r v s 512 → Grows t r u s 512
grow_comma {c} {q = q} {v = v} p n = record {
  all = λ a b. p.all a (All-cons IsSpelled c v (All-head IsSpelled c q (p.rest a)) (n.all (All-tail IsSpelled c q (p.rest a)) b));
  rest = λ a. n.rest (All-tail IsSpelled c q (p.rest a));
  size = omega (arith, p.size, n.size);
}

grow_close : {c : Tok} {t q u s : List Tok} → Grows t (c ∷ q) u (c ∷ s) 512 → Grows t q u s 0
grow_close {c} {q = q} {s = s} p = record {
  all = λ a b. p.all a (All-cons IsSpelled c s (All-head IsSpelled c q (p.rest a)) b);
  rest = λ a. All-tail IsSpelled c q (p.rest a);
  size = omega (arith, p.size);
}

-- tokens that spell something before s
pub record Grown (Z : List Tok → List Tok → Type 0) (t r s : List Tok) (most : ℕ) : Type 0 where
  pub now : List Tok
  pub grows : Grows t r now s most
  pub spelled : Z now s

pub grown : {Z : List Tok → List Tok → Type 0} {t r u s : List Tok} {most : ℕ} → Grows t r u s most → Z u s → Grown Z t r s most
grown {u = u} p h = record { now = u; grows = p; spelled = h }

pub grown_of : {Z : List Tok → List Tok → Type 0} {t r s : List Tok} → Moved Z t r s → Grown Z t r s 0
grown_of a = record { now = a.now; grows = grows a.along; spelled = a.spelled }

-- ---- the type of a parameter: one with tokens, or the one that is written

pub data Chosen (size : ℕ) (p : Param) (x : Ty) : Type 0 where
  put : HasTokens size x → Chosen size p x
  kept : x ≡ given_type p.ty → Chosen size p x

given_by : (b : Bool) (x : Ty) → b ≡ false → (if b then ty.Int else x) ≡ x
given_by false x e = refl
given_by true x e = absurd (cc)

int_by : (b : Bool) (x : Ty) → b ≡ true → (if b then ty.Int else x) ≡ ty.Int
int_by true x e = refl
int_by false x e = absurd (cc)

abbrev none_in : Ty-F Ty → Bool
none_in x = has_none (parts_in x)

given_none : given_type no_type ≡ ty.Int
given_none = int_by (is_open no_type) no_type (ap none_in (ty.outs-Tuple []))

chosen : (size : ℕ) → 1 ≤ size → (b : Bool) (p : Param) (left : Left) → Have size left.types → Chosen size p (type_filled b (given_type p.ty) left)
unfolding type_filled
chosen size some true p left has = put (have_next size some left.types has)
chosen size some false p left has = kept refl

has_after : (size : ℕ) (b : Bool) (left : Left) → Have size left.types → Have size (after_param b left).types
unfolding after_param
has_after size true left has = have_drop size 1 left.types has
has_after size false left has = has

abbrev pub LooseOne : (ℕ → Room) → ℕ → Spelling Param
LooseOne room f = IsLooseParam (TypeIn room f 2)

abbrev pub TypedOne : ℕ → Spelling Param
TypedOne size = IsParam (TypeIn (λ d. Free) size 2)

abbrev pub LooseMember : (ℕ → Room) → ℕ → Spelling Member
LooseMember room f = IsMember (room 1) (TypeIn room f 1) (IsParams (LooseOne room f)) (IsPattern (room 1) (deeper room f 2)) (IsBlock (room 1) (deeper room f 2) (BodyIn room f 2))

abbrev pub TypedMember : ℕ → Spelling Member
TypedMember size = IsMember Free (TypeIn (λ d. Free) size 1) (IsParams (TypedOne size)) (IsPattern Free (deeper (λ d. Free) size 2)) (IsBlock Free (deeper (λ d. Free) size 2) (BodyIn (λ d. Free) size 2))

module _ (room : ℕ → Room) (f size : ℕ) (fits : f ≤ size) (some : 1 ≤ size) where
  none_chosen : (n : List ℕ) (x : Ty) → Chosen size (record { name = n; ty = no_type }) x → HasTokens size x
  none_chosen n x (put tokens) = tokens
  none_chosen n x (kept same) = subst (HasTokens size) (sym (same ∙ given_none)) (int_placed size some)

  param_grows : (p : Param) (t r : List Tok) → LooseOne room f p t r → (x : Ty) → Chosen size p x → (s : List Tok) → Grown (TypedOne size (record { name = p.name; ty = x })) t r s 512
  param_grows _ t r (loose.IsLooseParam.written {x = y} (g.Named.named {t = a} e) (g.At.at {t = c} {r = q} i) h) x (put tokens) s =
      let b = tokens.places 2 s in
      let old = type_moves room f 2 size 2 fits y _ _ h s in
      record {
        now = a ∷ c ∷ b.now;
        grows = record {
          all = λ z w. All-cons IsSpelled a (c ∷ b.now) (All-head IsSpelled a (c ∷ q) z) (All-cons IsSpelled c b.now (All-head IsSpelled c q (All-tail IsSpelled a (c ∷ q) z)) (b.all w));
          rest = λ z. old.along.rest (All-tail IsSpelled c q (All-tail IsSpelled a (c ∷ q) z));
          size = omega (arith, b.few, old.along.shorter);
        };
        spelled = gr.IsParam.param (g.Named.named e) (g.At.at i) b.spelled;
      }
  param_grows _ t r (loose.IsLooseParam.written {x = y} (g.Named.named {t = a} e) (g.At.at {t = c} i) h) x (kept same) s =
      let old = type_moves room f 2 size 2 fits y _ _ h s in
      let is : x ≡ y = same ∙ given_by (is_open y) y (type_written room f 2 y _ _ h) in
      grown (grow_loose (grows (more (more old.along)))) (subst (λ z. TypedOne size (record { name = a.text; ty = z }) (a ∷ c ∷ old.now) s) (sym is) (gr.IsParam.param (g.Named.named e) (g.At.at i) old.spelled))
  param_grows _ t r (loose.IsLooseParam.without (g.Named.named {t = a} e)) x choice s =
      let b = (none_chosen a.text x choice).places 2 s in
      let c = tok_of a.line m.Colon (codes ":") in
      record {
        now = a ∷ c ∷ b.now;
        grows = record {
          all = λ z w. All-cons IsSpelled a (c ∷ b.now) (All-head IsSpelled a r z) (All-cons IsSpelled c b.now (colon_spelled a.line) (b.all w));
          rest = λ z. All-tail IsSpelled a r z;
          size = omega (arith, b.few);
        };
        spelled = gr.IsParam.param (g.Named.named e) (g.At.at refl) b.spelled;
      }

  -- ---- parameters in turn

  abbrev pub HasLeft : Left → Type 0
  HasLeft left = Have size left.types

  has_param : (class in_member at : ℕ) (p : Param) (left : Left) → HasLeft left → HasLeft (param_left class in_member at p left)
  unfolding param_left
  has_param class in_member at p left has = has_after size (is_next class in_member at left.places) left has

  has_params : (class in_member at : ℕ) (ps : List Param) (left : Left) → HasLeft left → HasLeft (left_from (param_left class in_member) at ps left)
  unfolding left_from
  has_params class in_member at [] left has = has
  has_params class in_member at (p ∷ ps) left has = has_params class in_member (at + 1) ps (param_left class in_member at p left) (has_param class in_member at p left has)

  params_grow : (class in_member at : ℕ) (ps : List Param) (left : Left) (t r : List Tok) → Separated m.Comma (LooseOne room f) ps t r → HasLeft left → (s : List Tok)
      → Grown (Separated m.Comma (TypedOne size) (filled_from (param_filled class in_member) (param_left class in_member) at (map given_param ps) left)) t r s 512
  unfolding filled_from param_filled
  params_grow class in_member at _ left t r (g.Separated.last {x} h) has s =
      let a = param_grows x _ _ h _ (chosen size some (is_next class in_member at left.places) x left has) s in
      grown a.grows (g.Separated.last a.spelled)
  params_grow class in_member at _ left t r (g.Separated.more {x} {xs} h (g.At.at {t = c} e) l) has s =
      let b = params_grow class in_member (at + 1) xs (param_left class in_member at (given_param x) left) _ _ l (has_param class in_member at (given_param x) left has) s in
      let a = param_grows x _ _ h _ (chosen size some (is_next class in_member at left.places) x left has) (c ∷ b.now) in
      grown (grow_comma a.grows b.grows) (g.Separated.more a.spelled (g.At.at e) b.spelled)

  list_grows : (class in_member : ℕ) (ps : List Param) (left : Left) (t r : List Tok) → IsParams (LooseOne room f) ps t r → HasLeft left → (s : List Tok)
      → Grown (IsParams (TypedOne size) (params_filled class in_member (map given_param ps) left)) t r s 0
  unfolding filled_from
  list_grows class in_member _ left t r (g.Closed.empty (g.At.at e)) has s = grown (grows (more here)) (g.Closed.empty (g.At.at e))
  list_grows class in_member ps left t r (g.Closed.full l (g.At.at {t = c} e)) has s =
      let a = params_grow class in_member 0 ps left _ _ l has (c ∷ s) in
      grown (grow_close a.grows) (g.Closed.full a.spelled (g.At.at e))

  -- ---- members

  pattern_here : Moves (IsPattern (room 1) (deeper room f 2)) (IsPattern Free (deeper (λ d. Free) size 2))
  pattern_here = pattern_moves (room 1) (deeper room f 2) (deeper (λ d. Free) size 2) (deep_moves room f 2 size 2 fits)

  block_here : Moves (IsBlock (room 1) (deeper room f 2) (BodyIn room f 2)) (IsBlock Free (deeper (λ d. Free) size 2) (BodyIn (λ d. Free) size 2))
  block_here = block_moves (room 1) (deeper room f 2) (deeper (λ d. Free) size 2) (deep_moves room f 2 size 2 fits) (body_moves room f 2 size 2 fits)

  pub member_grows : (class at : ℕ) (x : Member) (left : Left) (t r : List Tok) → LooseMember room f x t r → HasLeft left → (s : List Tok) → Grown (TypedMember size (member_filled class at (given_member x) left)) t r s 0
  unfolding member_filled
  member_grows class at _ left t r (gr.IsMember.var {x} (g.At.at e) (g.Named.named i) (g.At.at j) h (g.At.at {t = z} k)) has s =
      let a = type_moves room f 1 size 1 fits x _ _ h (z ∷ s) in
      grown (grows (more (more (more (join a.along (more here)))))) (gr.IsMember.var (g.At.at e) (g.Named.named i) (g.At.at j) a.spelled (g.At.at k))
  member_grows class at _ left t r (gr.IsMember.setup {ps} {b} (g.At.at e) (g.At.at i) (g.Opens.opens o (g.At.at j)) l (g.At.at {t = c} k) q) has s =
      let d = block_here b _ _ q s in
      let a = list_grows class at ps left _ _ l has (c ∷ d.now) in
      grown (grow_more (grow_more (grow_more (grow_join a.grows (grows (more d.along)))))) (gr.IsMember.setup (g.At.at e) (g.At.at i) (g.Opens.opens tt (g.At.at j)) a.spelled (g.At.at k) d.spelled)
  member_grows class at _ left t r (gr.IsMember.run {b} (g.At.at e) (g.At.at i) (g.Opens.opens o (g.At.at j)) (g.At.at k) (g.At.at n) q) has s =
      let d = block_here b _ _ q s in
      grown (grows (more (more (more (more (more d.along)))))) (gr.IsMember.run (g.At.at e) (g.At.at i) (g.Opens.opens tt (g.At.at j)) (g.At.at k) (g.At.at n) d.spelled)
  member_grows class at _ left t r (gr.IsMember.method {ps} {b} (g.At.at e) (g.Named.named i) (g.Opens.opens o (g.At.at j)) l (g.At.at {t = c} k) q) has s =
      let d = block_here b _ _ q s in
      let a = list_grows class at ps left _ _ l has (c ∷ d.now) in
      grown (grow_more (grow_more (grow_more (grow_join a.grows (grows (more d.along)))))) (gr.IsMember.method (g.At.at e) (g.Named.named i) (g.Opens.opens tt (g.At.at j)) a.spelled (g.At.at k) d.spelled)
  member_grows class at _ left t r (gr.IsMember.receive {p} {o} {ns} {b} (g.At.at e) h i n (g.At.at {t = c} k) q) has s =
      let d = block_here b _ _ q s in
      let w = at_moves ns _ _ n (c ∷ d.now) in
      let v = from_moves pattern_here o _ _ i w.now in
      let a = pattern_here p _ _ h v.now in
      grown (grows (more (join a.along (join v.along (join w.along (more d.along)))))) (gr.IsMember.receive (g.At.at e) a.spelled v.spelled w.spelled (g.At.at k) d.spelled)

  has_member : (class at : ℕ) (x : Member) (left : Left) → HasLeft left → HasLeft (member_left class at x left)
  unfolding member_left
  has_member class at (member.Var name x line) left has = has
  has_member class at (member.Setup params body line) left has = has_params class at 0 params left has
  has_member class at (member.Run body line) left has = has
  has_member class at (member.Method name params body line) left has = has_params class at 0 params left has
  has_member class at (member.Receive message from labels body line) left has = has

  pub has_members : (class at : ℕ) (xs : List Member) (left : Left) → HasLeft left → HasLeft (left_from (member_left class) at xs left)
  unfolding left_from
  has_members class at [] left has = has
  has_members class at (x ∷ xs) left has = has_members class (at + 1) xs (member_left class at x left) (has_member class at x left has)

  pub members_grow : (class at : ℕ) (xs : List Member) (left : Left) (t r : List Tok) → Ended (LooseMember room f) xs t r → HasLeft left → (s : List Tok)
      → Grown (Ended (TypedMember size) (filled_from (member_filled class) (member_left class) at (map given_member xs) left)) t r s 0
  unfolding filled_from
  members_grow class at _ left t r (g.Ended.ends {x} h (g.At.at {t = c} e)) has s =
      let a = member_grows class at x left _ _ h has (c ∷ s) in
      grown (grow_join a.grows (grows (more here))) (g.Ended.ends a.spelled (g.At.at e))
  members_grow class at _ left t r (g.Ended.goes_on {x} {xs} h l) has s =
      let b = members_grow class (at + 1) xs (member_left class at (given_member x) left) _ _ l (has_member class at (given_member x) left has) s in
      let a = member_grows class at x left _ _ h has b.now in
      grown (grow_join a.grows b.grows) (g.Ended.goes_on a.spelled b.spelled)
