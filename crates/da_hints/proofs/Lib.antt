pub mod LooseTexts
