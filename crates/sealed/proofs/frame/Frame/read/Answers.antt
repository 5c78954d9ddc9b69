use Rattle.std.proofs.Common.{◌-◌, leb, length, refl, sym, ◌∙◌}
use Rattle.std.proofs.lemmas.Bool.{and_from, and_right, le-leb}
use Rattle.sealed.specs.Reading.{node_total, entry_total, distance}
use Rattle.sealed.proofs.Checking.{fits_is}
use Rattle.sealed.proofs.frame.Frame.read.Goals as goal

pub returns-then-not-trailer_fits : goal.returns-then-not-trailer_fits
unfolding node_total entry_total distance
returns-then-not-trailer_fits c =
    let same = fits_is (length c.args.bytes.now - 8) _ _ _ _ _ _ c.u16_at.ensures c.u16_at-2.ensures c.u32_at.ensures in
    and_right (leb 8 (length c.args.bytes.now)) _ (sym (c.trailer_fits.ensures ∙ same) ∙ c.if-not-trailer_fits.true)

pub returns : goal.returns
unfolding node_total entry_total distance
returns c =
    let long = le-leb 8 (length c.args.bytes.now) c.if-len-lt-TRAILER.false in
    let same = fits_is (length c.args.bytes.now - 8) _ _ _ _ _ _ c.u16_at.ensures c.u16_at-2.ensures c.u32_at.ensures in
    (refl, record { fits = and_from _ _ long (sym (c.trailer_fits.ensures ∙ same) ∙ c.if-not-trailer_fits.false); nodes_are = c.u16_at.ensures; entries_are = c.u16_at-2.ensures })
