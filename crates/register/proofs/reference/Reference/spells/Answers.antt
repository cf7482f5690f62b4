-- Padding with zeros keeps texts apart.
use Rattle.std.proofs.Common.{◌≡◌, length, ◌∙◌, arith}
use Rattle.std.proofs.lemmas.Slice.Eq.{slice_eq-Decides, bytes_eq-Decides}
use Rattle.std.proofs.lemmas.Bool.Decides.{same_from_decides, Decides-eqb}
use Rattle.register.proofs.Padding.{same_unpadded, trails_from_shaped}
use Rattle.register.proofs.reference.Reference.spells.Goals as goal

pub returns : goal.returns
returns c =
    let a = c.args.self.now in
    let b = c.args.other.now in
    let n : length a.bytes ≡ length b.bytes = omega arith in
    same_from_decides _ _ (slice_eq-Decides Decides-eqb a.bytes b.bytes c.eq.result c.eq.ensures) (bytes_eq-Decides a.bytes b.bytes)
    ∙ same_unpadded a.bytes b.bytes n (trails_from_shaped a.bytes a.ok) (trails_from_shaped b.bytes b.ok)
