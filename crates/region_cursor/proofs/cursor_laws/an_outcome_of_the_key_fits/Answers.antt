use Rattle.region_cursor.proofs.Callers.{outcome_fits}
use Rattle.region_cursor.proofs.cursor_laws.an_outcome_of_the_key_fits.Goals as goal

pub returns : goal.returns
returns c = outcome_fits
