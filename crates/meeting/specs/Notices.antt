-- The notice of a meeting: what it is about. Assumes nothing.
use Rattle.std.specs.Prelude.{◌≡◌, ℕ, Bool, true, false, ◌&&◌, List, Some, None, Option}
use Rattle.register.specs.Spelling.{spelling}
use Rattle.register.specs.Texts.{is_text}
use Rattle.format.specs.Simple.{is_isin_code}
use Rattle.message.specs.Texts.{text_of}
use Rattle.short.specs.Short.{Short}
use Rattle.agenda.specs.Agendas.{Table}
use Rattle.meeting.specs.declared.draft.Draft.{Draft}
use Rattle.meeting.specs.declared.meeting.Meeting.{Meeting}
use Rattle.meeting.specs.declared.notice.Notice.{Notice as NoticeValue}

-- the event's reference, the ISIN and the agenda
pub record Notice : Type 0 where
  pub event : List ℕ
  pub isin : List ℕ
  pub agenda : Table

abbrev pub noticed : List ℕ → List ℕ → Table → Notice
noticed event isin agenda = record { event = event; isin = isin; agenda = agenda }

abbrev pub notice_meant : NoticeValue → Notice
notice_meant n = record { event = spelling n.event; isin = text_of n.isin; agenda = n.agenda.questions }

abbrev pub drafted : Draft → Notice
drafted d = notice_meant d.notice

-- whether it takes messages or is closed
abbrev pub convened : {S : Type 0} → Meeting S → Notice
convened m = notice_meant m.notice

-- a name: the event is a reference, 1 to 16 characters of set x, and the ISIN twelve capital letters or digits
abbrev pub is_name : List ℕ → List ℕ → Bool
is_name event isin = is_text event && is_isin_code isin

-- the code of an ISIN, kept; none where it is no such code
abbrev pub IsinCode : List ℕ → Option (Short ℕ) → Type 0
IsinCode isin None = is_isin_code isin ≡ false
IsinCode isin (Some t) = (is_isin_code isin ≡ true) × (text_of t ≡ isin)
