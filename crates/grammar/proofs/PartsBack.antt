-- The parts of a text that are spelt, and keep the rules, are read.
use Rattle.std.proofs.Common.{◌≡◌, ℕ, zero, suc, ◌+◌, ◌<◌, ◌≤◌, false, leb, List, [], ◌∷◌, ◌++◌, length, Some, codes, refl, ap, arith}
use Rattle.std.specs.List.{list_any}
use Rattle.std.specs.Str.{bytes_eq}
use Rattle.std.proofs.lemmas.Bool.{lt-ltb, le-leb, eq-eqb, and_from}
use Rattle.lexer.specs.Lexemes.{Lexeme, word, number, mark, token, Reader}
use Rattle.lexer.specs.declared.mark.Mark.TheVariants.{Open, Close}
use Rattle.program.specs.declared.kind.Kind.{Kind}
use Rattle.program.specs.declared.kind.Kind.TheVariants.{Skip, Assume, Then, Else, Assign, Do, End, Call, Return, Resume, Post, Dispatch, Yield, Zield}
use Rattle.program.specs.Kinds.{named}
use Rattle.program.specs.KindLaws.{worded}
use Rattle.grammar.specs.Tokens.{same, value, reserved, Limit, of_delay, of_kind, limit_letters, limit_of}
use Rattle.grammar.specs.Sources.{Block, size, Procedure, Main, Bound, Aim, exactly, anything, Sizes, procedure_places, main_places}
use Rattle.grammar.specs.Spelling.{braced, spelt_block, spelt_procedures, spelt_mains, spelt_values, spelt_aim, spelt_aims, spelt_bounds}
use Rattle.grammar.specs.Rules.{KeepsBlock, KeepsProcedures, KeepsMains, KeepsValues, KeepsAim, KeepsAims, KeepsBounds, Within}
use Rattle.grammar.specs.Results.{ok, Reads}
use Rattle.grammar.specs.ReadText.{between, sized, exactly_number, a_body, new_name, some_procedures, some_mains, some_values, an_aim, some_aims, a_limit, some_bounds}
use Rattle.grammar.proofs.Joining.{split, expect_complete}
use Rattle.grammar.proofs.Telling.{a_number_complete, a_name_complete}
use Rattle.grammar.proofs.BlocksBack.{statements_complete}

-- A word tells what a bound bounds.
not_delay : (k : Kind) → bytes_eq (named k) (codes "delay") ≡ false
not_delay Skip = refl
not_delay Assume = refl
not_delay Then = refl
not_delay Else = refl
not_delay Assign = refl
not_delay Do = refl
not_delay End = refl
not_delay Call = refl
not_delay Return = refl
not_delay Resume = refl
not_delay Post = refl
not_delay Dispatch = refl
not_delay Yield = refl
not_delay Zield = refl

pub limit_back : (k : Limit) → limit_of (word (limit_letters k)) ≡ Some k
unfolding limit_of
limit_back of_delay = refl
limit_back (of_kind k) = rw (not_delay k, (worded (named k) k).1 refl)

module _ (r : Reader) where
  a_limit_complete : (k : Limit) (a : ℕ) → r.look a ≡ token (word (limit_letters k)) → a_limit r a ≡ ok k (r.next a)
  unfolding a_limit
  a_limit_complete k a l = rw (l, limit_back k)

  between_complete : (low high a : ℕ) (ds : List ℕ) → r.look a ≡ token (number ds) → Within low high ds → between r low high a ≡ ok ds (r.next a)
  unfolding between
  between_complete low high a ds l w =
      rw (l, and_from (leb low (value ds)) (leb (value ds) high) (le-leb low (value ds) w.least) (le-leb (value ds) high w.most))

  pub sized_complete : (w : List ℕ) (low high a : ℕ) (ds : List ℕ) → r.look a ≡ token (word w) → r.look (r.next a) ≡ token (number ds) → Within low high ds → sized r w low high a ≡ ok ds (r.next (r.next a))
  unfolding sized
  sized_complete w low high a ds l m k =
      rw (expect_complete r (word w) a l) (between_complete low high (r.next a) ds m k)

  exactly_complete : (n a : ℕ) (ds : List ℕ) → r.look a ≡ token (number ds) → value ds ≡ n → exactly_number r n a ≡ ok ds (r.next a)
  unfolding exactly_number
  exactly_complete n a ds l e = rw (l, eq-eqb (value ds) n e)

  new_name_complete : (names : List (List ℕ)) (a : ℕ) (w : List ℕ) → r.look a ≡ token (word w) → reserved w ≡ false → list_any (bytes_eq w) names ≡ false → new_name r names a ≡ ok w (r.next a)
  unfolding new_name
  new_name_complete names a w l e f = rw (a_name_complete r a w l e, f)

  module _ (z : Sizes) (few : z.globals ≤ 8) where
    body_complete : (place a b : ℕ) (s : Block) → Reads r a (braced (spelt_block s)) b → KeepsBlock z s 7 → place + size s < 200 → a_body r z place a ≡ ok s b
    unfolding a_body
    body_complete place a b s h k lt =
        split r (spelt_block s) (mark Close ∷ []) (r.next a) b h.1
        (λ c p q. rw (expect_complete r (mark Open) a h.0, statements_complete r z few s 201 7 place (r.next a) c p q.0 k (omega arith) (omega arith), lt-ltb (place + size s) 200 lt, expect_complete r (mark Close) c q.0) (ap (ok s) q.1))

    -- No more procedures.
    procedures_end : (t : Lexeme) (room : ℕ) (names : List (List ℕ)) (place a : ℕ) → r.look a ≡ token t → same t (word (codes "proc")) ≡ false → some_procedures r z room names place a ≡ ok [] a
    unfolding some_procedures
    procedures_end t zero names place a l e = rw (l, e)
    procedures_end t (suc room) names place a l e = rw (l, e)

    procedure_more : (p : Procedure) (rest : List Procedure) (room : ℕ) (names : List (List ℕ)) (place a b c : ℕ) → r.look a ≡ token (word (codes "proc")) → r.look (r.next a) ≡ token (word p.name) → Reads r (r.next (r.next a)) (braced (spelt_block p.body)) b → reserved p.name ≡ false → list_any (bytes_eq p.name) names ≡ false → KeepsBlock z p.body 7 → place + size p.body < 200 → some_procedures r z room (names ++ (p.name ∷ [])) (suc (place + size p.body)) b ≡ ok rest c → some_procedures r z (suc room) names place a ≡ ok (p ∷ rest) c
    unfolding some_procedures
    procedure_more p rest room names place a b c l m h e f k lt g =
        rw (l, new_name_complete names (r.next a) p.name m e f, body_complete place (r.next (r.next a)) b p.body h k lt, g)

    pub procedures_complete : (ps : List Procedure) (t : Lexeme) (room : ℕ) (names : List (List ℕ)) (place a b : ℕ) → Reads r a (spelt_procedures ps) b → r.look b ≡ token t → same t (word (codes "proc")) ≡ false → KeepsProcedures z names ps → length ps ≤ room → place + procedure_places ps ≤ 200 → some_procedures r z room names place a ≡ ok ps b
    procedures_complete [] t room names place a b h l e k le fits =
        rw h (procedures_end t room names place b l e)
    procedures_complete (p ∷ ps) t zero names place a b h l e k le fits = absurd (omega arith)
    procedures_complete (p ∷ ps) t (suc room) names place a b h l e k le fits =
        split r (braced (spelt_block p.body)) (spelt_procedures ps) (r.next (r.next a)) b h.1.1
        (λ c x y. procedure_more p ps room names place a c b h.0 h.1.0 x k.0 k.1 k.2 (omega arith) (procedures_complete ps t room (names ++ (p.name ∷ [])) (suc (place + size p.body)) c b y l e k.3 (omega arith) (omega arith)))

    main_more : (p : Main) (rest : List Main) (left n place a b c : ℕ) → r.look a ≡ token (word (codes "main")) → r.look (r.next a) ≡ token (number p.number) → Reads r (r.next (r.next a)) (braced (spelt_block p.body)) b → value p.number ≡ n → KeepsBlock z p.body 7 → place + size p.body < 200 → some_mains r z left (suc n) (suc (place + size p.body)) b ≡ ok rest c → some_mains r z (suc left) n place a ≡ ok (p ∷ rest) c
    unfolding some_mains
    main_more p rest left n place a b c l m h e k lt g =
        rw (expect_complete r (word (codes "main")) a l, exactly_complete n (r.next a) p.number m e, body_complete place (r.next (r.next a)) b p.body h k lt, g)

    no_mains : (n place a : ℕ) → some_mains r z zero n place a ≡ ok [] a
    unfolding some_mains
    no_mains n place a = refl

    pub mains_complete : (ms : List Main) (left n place a b : ℕ) → Reads r a (spelt_mains ms) b → KeepsMains z n ms → length ms ≡ left → place + main_places ms ≤ 200 → some_mains r z left n place a ≡ ok ms b
    mains_complete [] zero n place a b h k e fits = rw h (no_mains n place b)
    mains_complete [] (suc left) n place a b h k e fits = absurd (omega arith)
    mains_complete (p ∷ ms) zero n place a b h k e fits = absurd (omega arith)
    mains_complete (p ∷ ms) (suc left) n place a b h k e fits =
        split r (braced (spelt_block p.body)) (spelt_mains ms) (r.next (r.next a)) b h.1.1
        (λ c x y. main_more p ms left n place a c b h.0 h.1.0 x k.0 k.1 (omega arith) (mains_complete ms left (suc n) (suc (place + size p.body)) c b y k.2 (omega arith) (omega arith)))

  pub values_complete : (values : ℕ) (xs : List (List ℕ)) (left a b : ℕ) → Reads r a (spelt_values xs) b → KeepsValues values xs → length xs ≡ left → some_values r values left a ≡ ok xs b
  unfolding some_values
  values_complete values [] zero a b h k e = ap (ok []) h
  values_complete values [] (suc left) a b h k e = absurd (omega arith)
  values_complete values (x ∷ xs) zero a b h k e = absurd (omega arith)
  values_complete values (x ∷ xs) (suc left) a b h k e =
      rw (a_number_complete r values a x h.0 k.0, values_complete values xs left (r.next a) b h.1 k.1 (omega arith))

  aim_complete : (values : ℕ) (x : Aim) (a : ℕ) → r.look a ≡ token (spelt_aim x) → KeepsAim values x → an_aim r values a ≡ ok x (r.next a)
  unfolding an_aim
  aim_complete values (exactly ds) a l k = rw (l, a_number_complete r values a ds l k)
  aim_complete values anything a l k = rw l

  pub aims_complete : (values : ℕ) (xs : List Aim) (left a b : ℕ) → Reads r a (spelt_aims xs) b → KeepsAims values xs → length xs ≡ left → some_aims r values left a ≡ ok xs b
  unfolding some_aims
  aims_complete values [] zero a b h k e = ap (ok []) h
  aims_complete values [] (suc left) a b h k e = absurd (omega arith)
  aims_complete values (x ∷ xs) zero a b h k e = absurd (omega arith)
  aims_complete values (x ∷ xs) (suc left) a b h k e =
      rw (aim_complete values x a h.0 k.0, aims_complete values xs left (r.next a) b h.1 k.1 (omega arith))

  -- No more bounds.
  bounds_end : (t : Lexeme) (room a : ℕ) → r.look a ≡ token t → same t (word (codes "bound")) ≡ false → some_bounds r room a ≡ ok [] a
  unfolding some_bounds
  bounds_end t zero a l e = rw (l, e)
  bounds_end t (suc room) a l e = rw (l, e)

  bound_more : (x : Bound) (rest : List Bound) (room a c : ℕ) → r.look a ≡ token (word (codes "bound")) → r.look (r.next a) ≡ token (word (limit_letters x.limit)) → r.look (r.next (r.next a)) ≡ token (number x.budget) → value x.budget < 256 → some_bounds r room (r.next (r.next (r.next a))) ≡ ok rest c → some_bounds r (suc room) a ≡ ok (x ∷ rest) c
  unfolding some_bounds
  bound_more x rest room a c l m o k g =
      rw (l, a_limit_complete x.limit (r.next a) m, a_number_complete r 256 (r.next (r.next a)) x.budget o k, g)

  pub bounds_complete : (xs : List Bound) (t : Lexeme) (room a b : ℕ) → Reads r a (spelt_bounds xs) b → r.look b ≡ token t → same t (word (codes "bound")) ≡ false → KeepsBounds xs → length xs ≤ room → some_bounds r room a ≡ ok xs b
  bounds_complete [] t room a b h l e k le = rw h (bounds_end t room b l e)
  bounds_complete (x ∷ xs) t zero a b h l e k le = absurd (omega arith)
  bounds_complete (x ∷ xs) t (suc room) a b h l e k le =
      bound_more x xs room a b h.0 h.1.0 h.1.1.0 k.0 (bounds_complete xs t room (r.next (r.next (r.next a))) b h.1.1.1 l e k.1 (omega arith))
