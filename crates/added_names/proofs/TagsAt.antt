-- The tags in expressions and patterns, one layer at a time, in the shape in which code appends them.
use Rattle.std.specs.Prelude.{ℕ, ℤ, ◌<◌, Bool, List, [], ◌∷◌, ◌++◌, map, flat_map, length, Option, Some, None, option_to_list, refl}
use Rattle.std.specs.Option.{option_map}
use Rattle.std.proofs.Common.{◌≡◌, ◌∙◌, ap, sym, append_assoc, arith}
use Rattle.std.proofs.lemmas.List.{append-nil, length-map}
use Rattle.da_lang.specs.declared.tree.ChainTree.{ChainTree, out-ChainTree, roll-out-ChainTree}
use Rattle.da_lang.specs.declared.tree.CmpOp.{CmpOp}
use Rattle.da_lang.specs.declared.tree.Expr.{Expr, roll-Expr, out-Expr, roll-out-Expr}
use Rattle.da_lang.specs.declared.tree.Expr.TheVariants as ex
use Rattle.da_lang.specs.declared.tree.Expr.TheOpen.{Expr-F, PatternTree-F, PeerTree-F}
use Rattle.da_lang.specs.declared.tree.Expr.TheFolds.{map-Expr, map-PatternTree, map-PeerTree, fold-roll-Expr, fold-roll-PatternTree, fold-roll-PeerTree, fold-roll-ChainTree, fold-roll-GenTree}
use Rattle.da_lang.specs.declared.tree.GenTree.{GenTree, out-GenTree, roll-GenTree, roll-out-GenTree}
use Rattle.da_lang.specs.declared.tree.PatternTree.{PatternTree, roll-PatternTree}
use Rattle.da_lang.specs.declared.tree.PatternTree.TheVariants as pattern
use Rattle.da_lang.specs.declared.tree.PeerTree.{PeerTree, roll-PeerTree}
use Rattle.da_lang.specs.declared.tree.PeerTree.TheVariants as peer
use Rattle.da_lang.specs.declared.tree.SourceTree.{SourceTree}
use Rattle.added_names.specs.Tags.{Tags, Pattern, all, leading, tag_at, tag_if, in_history, tags_in, pattern_at, peer_tags, chain_tags, gen_tags, pattern_tag, pattern_tags, guard_tags, sender_tags, peer_if, leads, lead, text_in, sent_lead, sent_leads, sent_in, sent_tag, expr_step, pattern_step, peer_step, chain_step, gen_step}

pub all-map : {A : Type 0} (f : A → Tags) (xs : List A) → all (map f xs) ≡ flat_map f xs
all-map f [] = refl
all-map f (x ∷ xs) = ap (λ tags. f x ++ tags) (all-map f xs)

module _ (line : ℕ) where
  layer : (x : Expr-F Expr PatternTree PeerTree ChainTree GenTree) → tags_in line (roll-Expr x) ≡ expr_step (map-Expr Expr PatternTree PeerTree ChainTree GenTree Tags Pattern Tags Tags Tags (tags_in line) (pattern_at line) (peer_tags line) (chain_tags line) (gen_tags line) x)
  unfolding tags_in pattern_at peer_tags chain_tags gen_tags
  layer x = fold-roll-Expr Tags Pattern Tags Tags Tags expr_step (pattern_step line) peer_step chain_step gen_step x

  guard_all : (cond : Option Expr) → all (option_to_list (option_map (tags_in line) cond)) ≡ guard_tags line cond
  unfolding guard_tags
  guard_all None = refl
  guard_all (Some x) = append-nil (tags_in line x)

  peer_all : (p : Option PeerTree) → all (option_to_list (option_map (peer_tags line) p)) ≡ peer_if line p
  unfolding peer_if
  peer_all None = refl
  peer_all (Some p) = append-nil (peer_tags line p)

  pub tags-Or : (xs : List Expr) → tags_in line (ex.Or xs) ≡ flat_map (tags_in line) xs
  tags-Or xs = ap (tags_in line) (sym (ex.rolls-Or xs)) ∙ layer (Expr-F.Or xs) ∙ all-map (tags_in line) xs

  pub tags-And : (xs : List Expr) → tags_in line (ex.And xs) ≡ flat_map (tags_in line) xs
  tags-And xs = ap (tags_in line) (sym (ex.rolls-And xs)) ∙ layer (Expr-F.And xs) ∙ all-map (tags_in line) xs

  pub tags-Not : (x : Expr) → tags_in line (ex.Not x) ≡ tags_in line x
  tags-Not x = ap (tags_in line) (sym (ex.rolls-Not x)) ∙ layer (Expr-F.Not x)

  pub tags-Cmp : (o : CmpOp) (x : Expr) (y : Expr) → tags_in line (ex.Cmp o x y) ≡ tags_in line x ++ tags_in line y
  tags-Cmp o x y = ap (tags_in line) (sym (ex.rolls-Cmp o x y)) ∙ layer (Expr-F.Cmp o x y)

  pub tags-Member : (x : Expr) (y : Expr) → tags_in line (ex.Member x y) ≡ tags_in line x ++ tags_in line y
  tags-Member x y = ap (tags_in line) (sym (ex.rolls-Member x y)) ∙ layer (Expr-F.Member x y)

  pub tags-Chain : (x : Expr) (more : List ChainTree) → tags_in line (ex.Chain x more) ≡ tags_in line x ++ flat_map (chain_tags line) more
  tags-Chain x more = ap (tags_in line) (sym (ex.rolls-Chain x more)) ∙ layer (Expr-F.Chain x more) ∙ ap (λ tags. tags_in line x ++ tags) (all-map (chain_tags line) more)

  pub tags-Int : (n : ℤ) → tags_in line (ex.Int n) ≡ []
  tags-Int n = ap (tags_in line) (sym (ex.rolls-Int n)) ∙ layer (Expr-F.«Expr::Int» n)

  pub tags-Text : (bytes : List ℕ) → tags_in line (ex.Text bytes) ≡ []
  tags-Text bytes = ap (tags_in line) (sym (ex.rolls-Text bytes)) ∙ layer (Expr-F.«Expr::Text» bytes)

  pub tags-Truth : (b : Bool) → tags_in line (ex.Truth b) ≡ []
  tags-Truth b = ap (tags_in line) (sym (ex.rolls-Truth b)) ∙ layer (Expr-F.«Expr::Truth» b)

  pub tags-Me : tags_in line ex.Me ≡ []
  tags-Me = ap (tags_in line) (sym ex.rolls-Me) ∙ layer Expr-F.«Expr::Me»

  pub tags-Name : (name : List ℕ) → tags_in line (ex.Name name) ≡ []
  tags-Name name = ap (tags_in line) (sym (ex.rolls-Name name)) ∙ layer (Expr-F.«Expr::Name» name)

  pub tags-Clock : tags_in line ex.Clock ≡ []
  tags-Clock = ap (tags_in line) (sym ex.rolls-Clock) ∙ layer Expr-F.Clock

  pub tags-Range : (x : Expr) (y : Expr) → tags_in line (ex.Range x y) ≡ tags_in line x ++ tags_in line y
  tags-Range x y = ap (tags_in line) (sym (ex.rolls-Range x y)) ∙ layer (Expr-F.Range x y)

  pub tags-Tuple : (xs : List Expr) → tags_in line (ex.Tuple xs) ≡ flat_map (tags_in line) xs
  tags-Tuple xs = ap (tags_in line) (sym (ex.rolls-Tuple xs)) ∙ layer (Expr-F.«Expr::Tuple» xs) ∙ all-map (tags_in line) xs

  pub tags-SetOf : (xs : List Expr) → tags_in line (ex.SetOf xs) ≡ flat_map (tags_in line) xs
  tags-SetOf xs = ap (tags_in line) (sym (ex.rolls-SetOf xs)) ∙ layer (Expr-F.SetOf xs) ∙ all-map (tags_in line) xs

  pub tags-Count : (x : Expr) → tags_in line (ex.Count x) ≡ tags_in line x
  tags-Count x = ap (tags_in line) (sym (ex.rolls-Count x)) ∙ layer (Expr-F.Count x)

  pub tags-Sum : (x : Expr) → tags_in line (ex.Sum x) ≡ tags_in line x
  tags-Sum x = ap (tags_in line) (sym (ex.rolls-Sum x)) ∙ layer (Expr-F.Sum x)

  pub tags-Min : (x : Expr) (y : Expr) → tags_in line (ex.Min x y) ≡ tags_in line x ++ tags_in line y
  tags-Min x y = ap (tags_in line) (sym (ex.rolls-Min x y)) ∙ layer (Expr-F.Min x y)

  pub tags-Max : (x : Expr) (y : Expr) → tags_in line (ex.Max x y) ≡ tags_in line x ++ tags_in line y
  tags-Max x y = ap (tags_in line) (sym (ex.rolls-Max x y)) ∙ layer (Expr-F.Max x y)

  quant_by : (each : Bool) (gens : List GenTree) (cond : Option Expr) → tags_in line (ex.Quant each gens cond) ≡ all (map (gen_tags line) gens) ++ all (option_to_list (option_map (tags_in line) cond))
  quant_by each gens None = ap (tags_in line) (sym (ex.rolls-Quant each gens None)) ∙ layer (Expr-F.Quant each gens None)
  quant_by each gens (Some x) = ap (tags_in line) (sym (ex.rolls-Quant each gens (Some x))) ∙ layer (Expr-F.Quant each gens (Some x))

  pub tags-Quant : (each : Bool) (gens : List GenTree) (cond : Option Expr) → tags_in line (ex.Quant each gens cond) ≡ flat_map (gen_tags line) gens ++ guard_tags line cond
  tags-Quant each gens cond = quant_by each gens cond ∙ ap (λ tags. tags ++ all (option_to_list (option_map (tags_in line) cond))) (all-map (gen_tags line) gens) ∙ ap (λ tags. flat_map (gen_tags line) gens ++ tags) (guard_all cond)

  comp_by : (term : Expr) (gens : List GenTree) (cond : Option Expr) → tags_in line (ex.Comp term gens cond) ≡ tags_in line term ++ all (map (gen_tags line) gens) ++ all (option_to_list (option_map (tags_in line) cond))
  comp_by term gens None = ap (tags_in line) (sym (ex.rolls-Comp term gens None)) ∙ layer (Expr-F.Comp term gens None)
  comp_by term gens (Some x) = ap (tags_in line) (sym (ex.rolls-Comp term gens (Some x))) ∙ layer (Expr-F.Comp term gens (Some x))

  pub tags-Comp : (term : Expr) (gens : List GenTree) (cond : Option Expr) → tags_in line (ex.Comp term gens cond) ≡ tags_in line term ++ flat_map (gen_tags line) gens ++ guard_tags line cond
  tags-Comp term gens cond =
      comp_by term gens cond
      ∙ ap (λ tags. tags_in line term ++ tags ++ all (option_to_list (option_map (tags_in line) cond))) (all-map (gen_tags line) gens)
      ∙ ap (λ tags. tags_in line term ++ flat_map (gen_tags line) gens ++ tags) (guard_all cond)

  -- a set that is described, part by part
  pub comp_more : (x term first : Expr) (gens given : List GenTree) (cond : Option Expr) (old one two : Tags) → x ≡ ex.Comp term gens cond → first ≡ term → given ≡ gens
      → one ≡ old ++ tags_in line first → two ≡ one ++ flat_map (gen_tags line) given → two ++ guard_tags line cond ≡ old ++ tags_in line x
  comp_more x term first gens given cond old one two is got listed put_first put_given =
      let tags = tags_in line term in
      let others = flat_map (gen_tags line) gens in
      let last = guard_tags line cond in
      ap (λ b. b ++ last) (put_given ∙ ap (λ b. b ++ flat_map (gen_tags line) given) (put_first ∙ ap (λ y. old ++ tags_in line y) got) ∙ ap (λ gs. old ++ tags ++ flat_map (gen_tags line) gs) listed ∙ append_assoc old tags others)
      ∙ append_assoc old (tags ++ others) last
      ∙ ap (λ ts. old ++ ts) (sym (ap (tags_in line) is ∙ tags-Comp term gens cond))

  pub chain_tags_of : (p : ChainTree) → chain_tags line p ≡ tags_in line (out-ChainTree p).operand
  unfolding tags_in pattern_at peer_tags chain_tags gen_tags
  chain_tags_of p = ap (chain_tags line) (sym (roll-out-ChainTree p)) ∙ fold-roll-ChainTree Tags Pattern Tags Tags Tags expr_step (pattern_step line) peer_step chain_step gen_step (out-ChainTree p)

  pattern_layer : (x : PatternTree-F Expr PatternTree PeerTree ChainTree GenTree) → pattern_at line (roll-PatternTree x) ≡ pattern_step line (map-PatternTree Expr PatternTree PeerTree ChainTree GenTree Tags Pattern Tags Tags Tags (tags_in line) (pattern_at line) (peer_tags line) (chain_tags line) (gen_tags line) x)
  unfolding tags_in pattern_at peer_tags chain_tags gen_tags
  pattern_layer x = fold-roll-PatternTree Tags Pattern Tags Tags Tags expr_step (pattern_step line) peer_step chain_step gen_step x

  leads_map : (ps : List PatternTree) → leading line (map (pattern_at line) ps) ≡ leads line ps
  unfolding leads
  leads_map [] = refl
  leads_map (p ∷ ps) = ap (tag_if line (pattern_at line p).text) (length-map ps (pattern_at line))

  within_map : (ps : List PatternTree) → flat_map (λ (p : Pattern). p.within) (map (pattern_at line) ps) ≡ flat_map (pattern_tags line) ps
  unfolding pattern_tags
  within_map [] = refl
  within_map (p ∷ ps) = ap (λ tags. (pattern_at line p).within ++ tags) (within_map ps)

  at-Wild : pattern_at line pattern.Wild ≡ pattern_step line PatternTree-F.Wild
  at-Wild = ap (pattern_at line) (sym pattern.rolls-Wild) ∙ pattern_layer PatternTree-F.Wild

  pub tag-Wild : pattern_tag line pattern.Wild ≡ []
  unfolding pattern_tag
  tag-Wild = ap (λ (p : Pattern). p.tag) at-Wild

  pub within-Wild : pattern_tags line pattern.Wild ≡ []
  unfolding pattern_tags
  within-Wild = ap (λ (p : Pattern). p.within) at-Wild

  pub lead-Wild : (parts : ℕ) → lead line pattern.Wild parts ≡ []
  unfolding lead tag_if
  lead-Wild parts = ap (λ (p : Pattern). tag_if line p.text parts) at-Wild

  at-Name : (name : List ℕ) → pattern_at line (pattern.Name name) ≡ pattern_step line (PatternTree-F.«PatternTree::Name» name)
  at-Name name = ap (pattern_at line) (sym (pattern.rolls-Name name)) ∙ pattern_layer (PatternTree-F.«PatternTree::Name» name)

  pub tag-Name : (name : List ℕ) → pattern_tag line (pattern.Name name) ≡ []
  unfolding pattern_tag
  tag-Name name = ap (λ (p : Pattern). p.tag) (at-Name name)

  pub within-Name : (name : List ℕ) → pattern_tags line (pattern.Name name) ≡ []
  unfolding pattern_tags
  within-Name name = ap (λ (p : Pattern). p.within) (at-Name name)

  pub lead-Name : (name : List ℕ) (parts : ℕ) → lead line (pattern.Name name) parts ≡ []
  unfolding lead tag_if
  lead-Name name parts = ap (λ (p : Pattern). tag_if line p.text parts) (at-Name name)

  at-Int : (n : ℤ) → pattern_at line (pattern.Int n) ≡ pattern_step line (PatternTree-F.«PatternTree::Int» n)
  at-Int n = ap (pattern_at line) (sym (pattern.rolls-Int n)) ∙ pattern_layer (PatternTree-F.«PatternTree::Int» n)

  pub tag-Int : (n : ℤ) → pattern_tag line (pattern.Int n) ≡ []
  unfolding pattern_tag
  tag-Int n = ap (λ (p : Pattern). p.tag) (at-Int n)

  pub within-Int : (n : ℤ) → pattern_tags line (pattern.Int n) ≡ []
  unfolding pattern_tags
  within-Int n = ap (λ (p : Pattern). p.within) (at-Int n)

  pub lead-Int : (n : ℤ) (parts : ℕ) → lead line (pattern.Int n) parts ≡ []
  unfolding lead tag_if
  lead-Int n parts = ap (λ (p : Pattern). tag_if line p.text parts) (at-Int n)

  at-Text : (bytes : List ℕ) → pattern_at line (pattern.Text bytes) ≡ pattern_step line (PatternTree-F.«PatternTree::Text» bytes)
  at-Text bytes = ap (pattern_at line) (sym (pattern.rolls-Text bytes)) ∙ pattern_layer (PatternTree-F.«PatternTree::Text» bytes)

  pub tag-Text : (bytes : List ℕ) → pattern_tag line (pattern.Text bytes) ≡ []
  unfolding pattern_tag
  tag-Text bytes = ap (λ (p : Pattern). p.tag) (at-Text bytes)

  pub within-Text : (bytes : List ℕ) → pattern_tags line (pattern.Text bytes) ≡ []
  unfolding pattern_tags
  within-Text bytes = ap (λ (p : Pattern). p.within) (at-Text bytes)

  pub lead-Text : (bytes : List ℕ) (parts : ℕ) → lead line (pattern.Text bytes) parts ≡ tag_at line bytes parts
  unfolding lead tag_if
  lead-Text bytes parts = ap (λ (p : Pattern). tag_if line p.text parts) (at-Text bytes)

  at-Truth : (b : Bool) → pattern_at line (pattern.Truth b) ≡ pattern_step line (PatternTree-F.«PatternTree::Truth» b)
  at-Truth b = ap (pattern_at line) (sym (pattern.rolls-Truth b)) ∙ pattern_layer (PatternTree-F.«PatternTree::Truth» b)

  pub tag-Truth : (b : Bool) → pattern_tag line (pattern.Truth b) ≡ []
  unfolding pattern_tag
  tag-Truth b = ap (λ (p : Pattern). p.tag) (at-Truth b)

  pub within-Truth : (b : Bool) → pattern_tags line (pattern.Truth b) ≡ []
  unfolding pattern_tags
  within-Truth b = ap (λ (p : Pattern). p.within) (at-Truth b)

  pub lead-Truth : (b : Bool) (parts : ℕ) → lead line (pattern.Truth b) parts ≡ []
  unfolding lead tag_if
  lead-Truth b parts = ap (λ (p : Pattern). tag_if line p.text parts) (at-Truth b)

  at-Me : pattern_at line pattern.Me ≡ pattern_step line PatternTree-F.«PatternTree::Me»
  at-Me = ap (pattern_at line) (sym pattern.rolls-Me) ∙ pattern_layer PatternTree-F.«PatternTree::Me»

  pub tag-Me : pattern_tag line pattern.Me ≡ []
  unfolding pattern_tag
  tag-Me = ap (λ (p : Pattern). p.tag) at-Me

  pub within-Me : pattern_tags line pattern.Me ≡ []
  unfolding pattern_tags
  within-Me = ap (λ (p : Pattern). p.within) at-Me

  pub lead-Me : (parts : ℕ) → lead line pattern.Me parts ≡ []
  unfolding lead tag_if
  lead-Me parts = ap (λ (p : Pattern). tag_if line p.text parts) at-Me

  at-Equal : (x : Expr) → pattern_at line (pattern.Equal x) ≡ pattern_step line (PatternTree-F.Equal (tags_in line x))
  at-Equal x = ap (pattern_at line) (sym (pattern.rolls-Equal x)) ∙ pattern_layer (PatternTree-F.Equal x)

  pub tag-Equal : (x : Expr) → pattern_tag line (pattern.Equal x) ≡ []
  unfolding pattern_tag
  tag-Equal x = ap (λ (p : Pattern). p.tag) (at-Equal x)

  pub within-Equal : (x : Expr) → pattern_tags line (pattern.Equal x) ≡ tags_in line x
  unfolding pattern_tags
  within-Equal x = ap (λ (p : Pattern). p.within) (at-Equal x)

  pub lead-Equal : (x : Expr) (parts : ℕ) → lead line (pattern.Equal x) parts ≡ []
  unfolding lead tag_if
  lead-Equal x parts = ap (λ (p : Pattern). tag_if line p.text parts) (at-Equal x)

  at-Tuple : (ps : List PatternTree) → pattern_at line (pattern.Tuple ps) ≡ pattern_step line (PatternTree-F.«PatternTree::Tuple» (map (pattern_at line) ps))
  at-Tuple ps = ap (pattern_at line) (sym (pattern.rolls-Tuple ps)) ∙ pattern_layer (PatternTree-F.«PatternTree::Tuple» ps)

  pub tag-Tuple : (ps : List PatternTree) → pattern_tag line (pattern.Tuple ps) ≡ leads line ps
  unfolding pattern_tag
  tag-Tuple ps = ap (λ (p : Pattern). p.tag) (at-Tuple ps) ∙ leads_map ps

  pub within-Tuple : (ps : List PatternTree) → pattern_tags line (pattern.Tuple ps) ≡ flat_map (pattern_tags line) ps
  unfolding pattern_tags
  within-Tuple ps = ap (λ (p : Pattern). p.within) (at-Tuple ps) ∙ within_map ps

  pub lead-Tuple : (ps : List PatternTree) (parts : ℕ) → lead line (pattern.Tuple ps) parts ≡ []
  unfolding lead tag_if
  lead-Tuple ps parts = ap (λ (p : Pattern). tag_if line p.text parts) (at-Tuple ps)

  pub leads-nil : leads line [] ≡ []
  unfolding leads
  leads-nil = refl

  pub leads-none : (ps : List PatternTree) → length ps < 1 → leads line ps ≡ []
  leads-none [] none = leads-nil
  leads-none (p ∷ ps) none = absurd (omega (arith, none))

  pub leads-cons : (p : PatternTree) (ps : List PatternTree) → leads line (p ∷ ps) ≡ lead line p (length ps)
  unfolding leads lead
  leads-cons p ps = refl

  peer_layer : (x : PeerTree-F Expr PatternTree PeerTree ChainTree GenTree) → peer_tags line (roll-PeerTree x) ≡ peer_step (map-PeerTree Expr PatternTree PeerTree ChainTree GenTree Tags Pattern Tags Tags Tags (tags_in line) (pattern_at line) (peer_tags line) (chain_tags line) (gen_tags line) x)
  unfolding tags_in pattern_at peer_tags chain_tags gen_tags
  peer_layer x = fold-roll-PeerTree Tags Pattern Tags Tags Tags expr_step (pattern_step line) peer_step chain_step gen_step x

  pub peer-None : peer_if line None ≡ []
  unfolding peer_if
  peer-None = refl

  pub peer-From : (p : PatternTree) → peer_if line (Some (peer.From p)) ≡ pattern_tags line p
  unfolding peer_if pattern_tags
  peer-From p = ap (peer_tags line) (sym (peer.rolls-From p)) ∙ peer_layer (PeerTree-F.From p)

  pub peer-To : (p : PatternTree) → peer_if line (Some (peer.To p)) ≡ pattern_tags line p
  unfolding peer_if pattern_tags
  peer-To p = ap (peer_tags line) (sym (peer.rolls-To p)) ∙ peer_layer (PeerTree-F.To p)

  pub guard-None : guard_tags line None ≡ []
  unfolding guard_tags
  guard-None = refl

  pub guard-Some : (x : Expr) → guard_tags line (Some x) ≡ tags_in line x
  unfolding guard_tags
  guard-Some x = refl

  pub sender-None : sender_tags line None ≡ []
  unfolding sender_tags
  sender-None = refl

  pub sender-Some : (p : PatternTree) → sender_tags line (Some p) ≡ pattern_tags line p
  unfolding sender_tags
  sender-Some p = refl

  gen_by : (message : PatternTree) (p : Option PeerTree) (source : SourceTree) → gen_tags line (roll-GenTree (record { message = message; peer = p; source = source })) ≡ gen_step (record { message = pattern_at line message; peer = option_map (peer_tags line) p; source = source })
  unfolding tags_in pattern_at peer_tags chain_tags gen_tags
  gen_by message None source = fold-roll-GenTree Tags Pattern Tags Tags Tags expr_step (pattern_step line) peer_step chain_step gen_step (record { message = message; peer = None; source = source })
  gen_by message (Some p) source = fold-roll-GenTree Tags Pattern Tags Tags Tags expr_step (pattern_step line) peer_step chain_step gen_step (record { message = message; peer = Some p; source = source })

  gen_parts : (message : PatternTree) (p : Option PeerTree) (source : SourceTree) → gen_tags line (roll-GenTree (record { message = message; peer = p; source = source })) ≡ in_history source (pattern_tag line message) ++ pattern_tags line message ++ peer_if line p
  unfolding pattern_tag pattern_tags
  gen_parts message p source = gen_by message p source ∙ ap (λ tags. in_history source (pattern_at line message).tag ++ (pattern_at line message).within ++ tags) (peer_all p)

  pub gen_tags_of : (g : GenTree) → gen_tags line g ≡ in_history (out-GenTree g).source (pattern_tag line (out-GenTree g).message) ++ pattern_tags line (out-GenTree g).message ++ peer_if line (out-GenTree g).peer
  gen_tags_of g = let v = out-GenTree g in ap (gen_tags line) (sym (roll-out-GenTree g)) ∙ gen_parts v.message v.peer v.source

  pub sent-Tuple : (xs : List Expr) → sent_tag line (ex.Tuple xs) ≡ sent_leads line xs
  unfolding sent_tag
  sent-Tuple xs = ap (sent_in line) (ex.outs-Tuple xs)

  no_tuple : (x : Expr) (y : Expr-F Expr PatternTree PeerTree ChainTree GenTree) → x ≡ roll-Expr y → ((xs : List Expr) → x ≡ ex.Tuple xs → ⊥) → sent_in line y ≡ []
  no_tuple x (Expr-F.«Expr::Tuple» xs) is none = absurd (none xs (is ∙ ex.rolls-Tuple xs))
  no_tuple x _ is none = refl

  pub sent-other : (x : Expr) → ((xs : List Expr) → x ≡ ex.Tuple xs → ⊥) → sent_tag line x ≡ []
  unfolding sent_tag
  sent-other x none = no_tuple x (out-Expr x) (sym (roll-out-Expr x)) none

  pub sent_leads-nil : sent_leads line [] ≡ []
  unfolding sent_leads
  sent_leads-nil = refl

  pub sent_leads-none : (xs : List Expr) → length xs < 1 → sent_leads line xs ≡ []
  sent_leads-none [] none = sent_leads-nil
  sent_leads-none (x ∷ xs) none = absurd (omega (arith, none))

  pub sent_leads-cons : (x : Expr) (xs : List Expr) → sent_leads line (x ∷ xs) ≡ sent_lead line x (length xs)
  unfolding sent_leads
  sent_leads-cons x xs = refl

  pub sent_lead-Text : (bytes : List ℕ) (parts : ℕ) → sent_lead line (ex.Text bytes) parts ≡ tag_at line bytes parts
  unfolding sent_lead tag_if
  sent_lead-Text bytes parts = ap (λ y. tag_if line (text_in y) parts) (ex.outs-Text bytes)

  no_text : (x : Expr) (y : Expr-F Expr PatternTree PeerTree ChainTree GenTree) → x ≡ roll-Expr y → ((bytes : List ℕ) → x ≡ ex.Text bytes → ⊥) → text_in y ≡ None
  no_text x (Expr-F.«Expr::Text» bytes) is none = absurd (none bytes (is ∙ ex.rolls-Text bytes))
  no_text x _ is none = refl

  pub sent_lead-other : (x : Expr) (parts : ℕ) → ((bytes : List ℕ) → x ≡ ex.Text bytes → ⊥) → sent_lead line x parts ≡ []
  unfolding sent_lead tag_if
  sent_lead-other x parts none = ap (λ o. tag_if line o parts) (no_text x (out-Expr x) (sym (roll-out-Expr x)) none)

pub ruleset expr_rules = (append_assoc, append-nil, tags-Quant, tags-Comp, tags-Or, tags-And, tags-Not, tags-Cmp, tags-Member, tags-Chain, tags-Int, tags-Text, tags-Truth, tags-Me, tags-Name, tags-Clock, tags-Range, tags-Tuple, tags-SetOf, tags-Count, tags-Sum, tags-Min, tags-Max, guard-None, guard-Some)

pub ruleset pattern_rules = (append-nil, within-Wild, within-Name, within-Int, within-Text, within-Truth, within-Me, within-Equal, within-Tuple, peer-None, peer-From, peer-To, sender-None, sender-Some)

pub ruleset tag_rules = (append-nil, tag-Wild, tag-Name, tag-Int, tag-Text, tag-Truth, tag-Me, tag-Equal, tag-Tuple, leads-nil, leads-cons)

pub ruleset lead_rules = (append-nil, lead-Wild, lead-Name, lead-Int, lead-Text, lead-Truth, lead-Me, lead-Equal, lead-Tuple)

pub ruleset sent_lead_rules = (append-nil, sent_lead-Text, sent_lead-other)

pub ruleset sent_rules = (append-nil, sent-Tuple, sent-other, sent_leads-nil, sent_leads-cons)

pub ruleset gen_rules = (append_assoc, append-nil, gen_tags_of)

pub ruleset joins = (append_assoc, append-nil)
