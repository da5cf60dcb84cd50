-- The kinds.
use Rattle.std.specs.Prelude.{ℕ, cond, List, [], ◌∷◌, codes, bytes_eq}
use Rattle.tls_codec.specs.OwnMessages.{Tree}
use Rattle.tls_codec.specs.Spellings.{Grammar, number, varint, option, triple, list, fixed_list, text, bytes}
use Rattle.tlsview_run.specs.Texts.{number_text, option_text, triple_text, list_text, bytes_text, leaf_text, step_text, log_text}
use Rattle.tls_codec_vectors.specs.Messages.{leaf_format, step_format, log_format}

-- a kind's name, the grammar of its type, and the text of a value
pub record Kind : Type 1 where
  pub name : List ℕ
  pub spells : Grammar
  pub shows : Tree → List ℕ

abbrev kind : List ℕ → Grammar → (Tree → List ℕ) → Kind
kind name spells shows = record { name = name; spells = spells; shows = shows }

-- the table of kinds
abbrev pub kinds : List Kind
kinds =
    kind (codes "u16") (number 2) number_text
    ∷ kind (codes "varint") varint number_text
    ∷ kind (codes "option-u16") (option (number 2)) (option_text number_text)
    ∷ kind (codes "vec-u8") (list (number 1)) (list_text number_text)
    ∷ kind (codes "vec-u16") (list (number 2)) (list_text number_text)
    ∷ kind (codes "vec-vec-u16") (list (list (number 2))) (list_text (list_text number_text))
    ∷ kind (codes "string") text bytes_text
    ∷ kind (codes "mixed") (triple (number 1) (list (number 2)) (option text))
    (triple_text number_text (list_text number_text) (option_text bytes_text))
    ∷ kind (codes "vlbytes") bytes bytes_text
    ∷ kind (codes "vec-vlbytes") (list bytes) (list_text bytes_text)
    ∷ kind (codes "vecu8-u16") (fixed_list 1 (number 2)) (list_text number_text)
    ∷ kind (codes "bytevecu32") (fixed_list 4 (number 1)) bytes_text
    ∷ kind (codes "leaf") leaf_format.spells leaf_text
    ∷ kind (codes "step") step_format.spells step_text
    ∷ kind (codes "log") log_format.spells log_text
    ∷ []

-- something holds of the first of these kinds that has this name, or none has it and something else holds
abbrev pub FirstNamed : List Kind → List ℕ → (Kind → Type 0) → Type 0 → Type 0
FirstNamed [] name Holds Else = Else
FirstNamed (k ∷ ks) name Holds Else = cond (bytes_eq name k.name) (Holds k) (FirstNamed ks name Holds Else)
