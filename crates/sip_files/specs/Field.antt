-- The fields of a line. A space stands before each.
use Rattle.std.specs.Prelude.{ℕ, List, ◌++◌, codes, decimal}
use Rattle.sip_message.specs.declared.id.Id.{Id}
use Rattle.sip_message.specs.declared.addr.Addr.{Addr}
use Rattle.sip_message.specs.Addr.{addr_text}
use Rattle.sip_files.specs.Word.{spelled_word, spelled_rest}

-- an id: the round and the place
unfoldable pub id_text : Id → List ℕ
id_text id = decimal id.round ++ codes "." ++ decimal id.place

-- a field that stands for itself
unfoldable pub plain_field : List ℕ → List ℕ
plain_field text = codes " " ++ text

unfoldable pub number_field : ℕ → List ℕ
number_field number = codes " " ++ decimal number

unfoldable pub id_field : Id → List ℕ
id_field id = codes " " ++ id_text id

unfoldable pub word_field : List ℕ → List ℕ
word_field text = codes " " ++ spelled_word text

unfoldable pub rest_field : List ℕ → List ℕ
rest_field text = codes " " ++ spelled_rest text

unfoldable pub address_field : Addr → List ℕ
address_field address = codes " " ++ addr_text address
