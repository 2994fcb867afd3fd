mod Examples
mod Parts
