-- An integer's double is no NaN.
use Rattle.decoder.proofs.Doubles.{no_nan}
use Rattle.decoder.proofs.integer.exact_double.Goals as goal

pub float_to_bits-result : goal.float_to_bits-result
float_to_bits-result c = no_nan _
