pub mod SizesLemmas
