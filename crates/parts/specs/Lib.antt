-- Parts of an expression, and what stands behind them.
pub mod Links
pub mod inner
