-- An alternate identifier: how it is spelled, and how it is read. Assumes nothing.
use Rattle.std.specs.Prelude.{ℕ, zero, suc, Bool, true, false, cond, List, [], ◌∷◌, ◌++◌, drop, Some, None, codes, Option}
use Rattle.fields.specs.Characters.{capital, set_x}
use Rattle.std.specs.Option.{option_map}
use Rattle.format.specs.declared.identifiers.IdentifierParts.{IdentifierParts}
use Rattle.format.specs.Runs.{Of, is_of}
use Rattle.format.specs.Texts.{and_then, or_else, after_word, stands_for}

-- an identifier: whether its issuer NSDR is named, a code, a country, and a text
pub record Identifier : Type 0 where
  pub issuer : Bool
  pub code : List ℕ
  pub country : List ℕ
  pub text : List ℕ

-- a code of four capital letters, a country of two, a text of 1 to 30 characters of set x
abbrev pub InIdentifier : Identifier → Type 0
InIdentifier m = Of capital 4 4 m.code × Of capital 2 2 m.country × Of set_x 1 30 m.text

abbrev pub issuer_text : Bool → List ℕ
issuer_text true = codes "NSDR"
issuer_text false = []

abbrev pub identifier_text : Identifier → List ℕ
identifier_text m =
    codes "ALTE/" ++ (issuer_text m.issuer ++ (codes "/" ++ (m.code ++ (codes "/" ++ (m.country ++ (codes "/" ++ m.text))))))

-- what the parts of a value say, with the text from the place where it starts
abbrev pub meant : List ℕ → IdentifierParts → Identifier
meant v p = record { issuer = p.issuer; code = p.code; country = p.country; text = drop p.start v }

-- reading it: n capital letters
abbrev pub one_more : ℕ → Option (List ℕ × List ℕ) → Option (List ℕ × List ℕ)
one_more c None = None
one_more c (Some p) = Some (c ∷ p.0, p.1)

abbrev pub read_capitals : ℕ → List ℕ → Option (List ℕ × List ℕ)
read_capitals zero s = Some ([], s)
read_capitals (suc n) [] = None
read_capitals (suc n) (c ∷ s) = cond (capital c) (one_more c (read_capitals n s)) None

-- `NSDR` or nothing, and a slash
abbrev pub read_issuer : List ℕ → Option (Bool × List ℕ)
read_issuer s = or_else (stands_for true (after_word (codes "NSDR/") s)) (stands_for false (after_word (codes "/") s))

-- `ALTE/`, the issuer, the code and the country, with a slash behind each
abbrev pub front_done : Bool → List ℕ → List ℕ → List ℕ → Option ((Bool × List ℕ × List ℕ) × List ℕ)
front_done n c k t = Some ((n, c, k), t)

abbrev pub front_last : Bool → List ℕ → List ℕ × List ℕ → Option ((Bool × List ℕ × List ℕ) × List ℕ)
front_last n c p = and_then (after_word (codes "/") p.1) (front_done n c p.0)

abbrev pub front_country : Bool → List ℕ → List ℕ → Option ((Bool × List ℕ × List ℕ) × List ℕ)
front_country n c t = and_then (read_capitals 2 t) (front_last n c)

abbrev pub front_slash : Bool → List ℕ × List ℕ → Option ((Bool × List ℕ × List ℕ) × List ℕ)
front_slash n p = and_then (after_word (codes "/") p.1) (front_country n p.0)

abbrev pub front_code : Bool × List ℕ → Option ((Bool × List ℕ × List ℕ) × List ℕ)
front_code p = and_then (read_capitals 4 p.1) (front_slash p.0)

abbrev pub front_issuer : List ℕ → Option ((Bool × List ℕ × List ℕ) × List ℕ)
front_issuer t = and_then (read_issuer t) front_code

abbrev pub read_front : List ℕ → Option ((Bool × List ℕ × List ℕ) × List ℕ)
read_front s = and_then (after_word (codes "ALTE/") s) front_issuer

-- and the text
abbrev pub identifier_done : (Bool × List ℕ × List ℕ) × List ℕ → Option Identifier
identifier_done p = cond (is_of set_x 1 30 p.1) (Some (record { issuer = p.0.0; code = p.0.1; country = p.0.2; text = p.1 })) None

abbrev pub identifier_in : List ℕ → Option Identifier
identifier_in s = and_then (read_front s) identifier_done

-- its parts: the text starts behind 18 characters, or behind 14 where no issuer is named
abbrev pub parts_of : Identifier → IdentifierParts
parts_of m = record { issuer = m.issuer; code = m.code; country = m.country; start = cond m.issuer 18 14 }

abbrev pub read_identifier : List ℕ → Option IdentifierParts
read_identifier v = option_map parts_of (identifier_in v)
